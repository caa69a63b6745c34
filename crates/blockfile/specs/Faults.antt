-- What a fault says: the refusal, the block, and the first byte in that block.
use Rattle.std.specs.Prelude.{ℕ}
use Rattle.model.specs.declared.refusal.Refusal.{Refusal}
use Rattle.model.specs.declared.refusal.Refusal.TheVariants as refusals
use Rattle.blockfile.specs.declared.fault.Flaw.{Flaw}
use Rattle.blockfile.specs.declared.fault.Flaw.TheVariants as flaws
use Rattle.blockfile.specs.declared.fault.FileFault.{FileFault}
use Rattle.blockfile.specs.declared.fault.FileFault.TheVariants.{Unfit, SectionsFull, Length, Block}

-- the refusal that a flaw of a block is given by
abbrev pub refusal_in_block : Flaw → Refusal
refusal_in_block flaws.Check = refusals.CheckSum
refusal_in_block flaws.Number = refusals.BlockNumber
refusal_in_block flaws.Kind = refusals.BlockKind
refusal_in_block flaws.Measure = refusals.BlockKind
refusal_in_block flaws.Count = refusals.RecordCount
refusal_in_block flaws.Stations = refusals.RecordCount
refusal_in_block flaws.Total = refusals.RecordCount
refusal_in_block (flaws.Unused at) = refusals.UnusedByte
refusal_in_block (flaws.Record at) = refusals.BadRecord

-- the first byte of a block that a flaw is about
abbrev pub byte_in_block : Flaw → ℕ
byte_in_block flaws.Check = 508
byte_in_block flaws.Number = 0
byte_in_block flaws.Kind = 6
byte_in_block flaws.Measure = 7
byte_in_block flaws.Count = 4
byte_in_block flaws.Stations = 8
byte_in_block flaws.Total = 10
byte_in_block (flaws.Unused at) = at
byte_in_block (flaws.Record at) = at

-- the refusal that a fault is given by
abbrev pub refusal_of : FileFault → Refusal
refusal_of Unfit = refusals.Unfit
refusal_of SectionsFull = refusals.SectionsFull
refusal_of Length = refusals.FileLength
refusal_of (Block f) = refusal_in_block f.flaw

-- the block that a fault is about: block 0 where it is about the whole file
abbrev pub block_of : FileFault → ℕ
block_of Unfit = 0
block_of SectionsFull = 0
block_of Length = 0
block_of (Block f) = f.block

-- the first byte in its block that a fault is about; the total of sections stands at byte 10 of block 0
abbrev pub byte_of : FileFault → ℕ
byte_of Unfit = 0
byte_of SectionsFull = 10
byte_of Length = 0
byte_of (Block f) = byte_in_block f.flaw
