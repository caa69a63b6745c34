-- How a block is judged: check sums, number, kind, measure, counts, unused bytes, and then its records.
use Rattle.std.specs.Prelude.{ℕ, zero, suc, ◌+◌, ◌-◌, ◌*◌, ◌/◌, Bool, true, ◌&&◌, List, Some, None, Ok, Err, Option, Result, ◌==◌, nat_lt, slice_index}
use Rattle.lists.specs.Bytes.{value}
use Rattle.lists.specs.Places.{demand, then, first_fault}
use Rattle.blockfile.specs.declared.block.Front.{Front}
use Rattle.blockfile.specs.declared.row.Row.{Row}
use Rattle.blockfile.specs.declared.fault.Flaw.{Flaw}
use Rattle.blockfile.specs.declared.fault.Flaw.TheVariants as flaws
use Rattle.blockfile.specs.declared.fault.BlockFault.{BlockFault}
use Rattle.blockfile.specs.Rows.{ahead}
use Rattle.blockfile.specs.Blocks.{kind_byte, checks_hold, header_front, section_front, row_in}

-- a judgement: no fault, or what is wrong
abbrev pub Judged : Type 0 → Type 0
Judged F = Result (Unit {0}) F

-- the check sums and the first eight bytes of a block against what they have to be
abbrev pub front_judged : List ℕ → Front → Judged Flaw
front_judged b f =
    demand (checks_hold b) flaws.Check
    (demand (value 4 b 0 == f.number) flaws.Number
    (demand (slice_index b 6 == kind_byte f.kind) flaws.Kind
    (demand (slice_index b 7 == f.code) flaws.Measure
    (demand (value 2 b 4 == f.count) flaws.Count (Ok tt)))))

-- a byte that holds no field has to be zero
abbrev pub byte_judged : List ℕ → ℕ → Judged Flaw
byte_judged b at = demand (slice_index b at == 0) (flaws.Unused at) (Ok tt)

-- the bytes from a place on up to the check sums hold no field
abbrev pub unused_judged : List ℕ → ℕ → Judged Flaw
unused_judged b start = first_fault (byte_judged b) (508 - start) start

-- how many blocks hold that many sections, 41 to a block
abbrev pub blocks_for : ℕ → ℕ
blocks_for total = (total + 40) / 41

-- the header's number of stations, and its total against the number of blocks in the file
abbrev pub sizes_judged : ℕ → ℕ → List ℕ → Judged Flaw
sizes_judged n blocks b =
    demand (value 2 b 8 == n) flaws.Stations
    (demand (1 + blocks_for (value 4 b 10) == blocks) flaws.Total (Ok tt))

-- the header of a file of n stations and that many blocks; its fields end before byte 14
abbrev pub header_judged : ℕ → ℕ → ℕ → List ℕ → Judged Flaw
header_judged n code blocks b =
    then (front_judged b (header_front code)) (then (sizes_judged n blocks b) (unused_judged b 14))

-- a row may stand behind the one before it, if there is one
abbrev pub follows : Option Row → Row → Bool
follows None r = true
follows (Some p) r = ahead p r

-- a row is good: two stations, lower first, a number that reads back, and behind the row before it
abbrev pub good_row : ℕ → (ℕ → Bool) → Option Row → Row → Bool
good_row n readable before r = nat_lt r.low r.high && (nat_lt r.high n && (readable r.number && follows before r))

-- the row before a place of a block: that of an earlier block before the first place
abbrev pub row_before : Option Row → List ℕ → ℕ → Option Row
row_before before b zero = before
row_before before b (suc place) = Some (row_in b place)

-- the record at a place of a block; a bad one is named by its first byte
abbrev pub record_judged : ℕ → (ℕ → Bool) → Option Row → List ℕ → ℕ → Judged Flaw
record_judged n readable before b place =
    demand (good_row n readable (row_before before b place) (row_in b place)) (flaws.Record (8 + 12 * place)) (Ok tt)

-- section block k with that many records, which stand behind the row before them
abbrev pub sections_judged : ℕ → (ℕ → Bool) → ℕ → ℕ → ℕ → Option Row → List ℕ → Judged Flaw
sections_judged n readable code k count before b =
    then (front_judged b (section_front k count code))
    (then (unused_judged b (8 + 12 * count)) (first_fault (record_judged n readable before b) count 0))

-- a flaw of block k as a fault
abbrev pub at_block : ℕ → Judged Flaw → Judged BlockFault
at_block k (Ok x) = Ok x
at_block k (Err flaw) = Err (record { block = k; flaw = flaw })
