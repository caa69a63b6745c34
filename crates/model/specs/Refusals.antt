use Rattle.std.specs.Prelude.{ℕ}
use Rattle.model.specs.declared.refusal.Refusal.{Refusal}
use Rattle.model.specs.declared.refusal.Refusal.TheVariants.{Unfit, NoStation, EqualEnds, UnfitWeight, NoSection, SectionsFull, Stale, BadSettings, LegsFull, LabelsFull, FileLength, CheckSum, BlockNumber, BlockKind, RecordCount, UnusedByte, BadRecord}

-- the number that names each cause of a refusal; of several causes the smaller number is given
abbrev pub number_of : Refusal → ℕ
number_of Unfit = 1
number_of NoStation = 2
number_of EqualEnds = 3
number_of UnfitWeight = 4
number_of NoSection = 5
number_of SectionsFull = 6
number_of Stale = 7
number_of BadSettings = 8
number_of LegsFull = 9
number_of LabelsFull = 10
number_of FileLength = 11
number_of CheckSum = 12
number_of BlockNumber = 13
number_of BlockKind = 14
number_of RecordCount = 15
number_of UnusedByte = 16
number_of BadRecord = 17
