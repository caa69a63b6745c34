-- What is written is accepted, and holds the same rows.
use Rattle.std.proofs.Common.{◌≡◌, ℕ, ◌+◌, ◌-◌, ◌*◌, ◌^◌, ◌<◌, ◌≤◌, Bool, true, eqb, List, ◌∷◌, ◌++◌, length, get_or, take, drop, replicate, Ok, Option, sym, refl, ap, ◌∙◌, ap₂, append_assoc, arith}
use Rattle.std.specs.List.{flat_map}
use Rattle.std.proofs.lemmas.List.Concat.{flat_map-append}
use Rattle.std.proofs.lemmas.Bool.{eq-eqb, and_from}
use Rattle.std.proofs.lemmas.List.{get_or_append_left, get_or-append_right, get_or-replicate, length-take-le}
use Rattle.lists.specs.Bytes.{le, value}
use Rattle.lists.specs.Writes.{filled}
use Rattle.lists.specs.Places.{then, first_fault}
use Rattle.lists.proofs.Cuts.{around}
use Rattle.lists.proofs.Digits.{number_le, value_at, value_past}
use Rattle.lists.proofs.Failing.{demand_holds, all_well}
use Rattle.lists.proofs.Writing.{length_filled}
use Rattle.blockfile.specs.declared.block.Front.{Front}
use Rattle.blockfile.specs.declared.row.Row.{Row}
use Rattle.blockfile.specs.declared.fault.Flaw.TheVariants as flaws
use Rattle.blockfile.specs.Rows.{blank_row}
use Rattle.blockfile.specs.Blocks.{kind_byte, first_check, second_check, checks_hold, sealed, block_from, front, header_front, section_front, header, entry_of, section_block, row_in}
use Rattle.blockfile.specs.Judging.{front_judged, unused_judged, byte_judged, sizes_judged, header_judged, sections_judged, record_judged, good_row, row_before, blocks_for}
use Rattle.blockfile.proofs.Sums.{first_front, second_front}
use Rattle.blockfile.proofs.Building.{length_entries}

-- the check sums of a sealed block hold
pub checks_return : (x : List ℕ) → length x ≡ 508 → checks_hold (sealed x) ≡ true
checks_return x l =
    let one = first_check x in
    let two = second_check x in
    let tail = le 2 one ++ le 2 two in
    let first : value 2 (sealed x) 508 ≡ first_check (sealed x) =
    value_at 2 one 508 x (le 2 two) (omega arith) l ∙ sym (first_front x tail (omega arith))
    in
    let second : value 2 (sealed x) 510 ≡ second_check (sealed x) =
    value_past 2 508 2 x tail l ∙ number_le 2 two (omega arith) ∙ sym (second_front x tail (omega arith))
    in
    and_from (eqb (value 2 (sealed x) 508) (first_check (sealed x))) (eqb (value 2 (sealed x) 510) (second_check (sealed x)))
    (eq-eqb _ _ first) (eq-eqb _ _ second)

-- the front of a written block is accepted
pub front_returns : (f : Front) (body : List ℕ) → length body ≤ 500 → f.number < 2 ^ 32 → f.count < 2 ^ 16 → front_judged (block_from (front f ++ body)) f ≡ Ok tt
front_returns f body l h g =
    let b = block_from (front f ++ body) in
    let checks : checks_hold b ≡ true = checks_return (filled 508 (front f ++ body)) (length_filled 508 (front f ++ body) (omega arith)) in
    demand_holds (checks_hold b) flaws.Check _ checks
    ∙ demand_holds (eqb (value 4 b 0) f.number) flaws.Number _ (eq-eqb (value 4 b 0) f.number (number_le 4 f.number h))
    ∙ demand_holds (eqb (kind_byte f.kind) (kind_byte f.kind)) flaws.Kind _ (eq-eqb (kind_byte f.kind) (kind_byte f.kind) refl)
    ∙ demand_holds (eqb f.code f.code) flaws.Measure _ (eq-eqb f.code f.code refl)
    ∙ demand_holds (eqb (value 2 b 4) f.count) flaws.Count (Ok tt) (eq-eqb (value 2 b 4) f.count (number_le 2 f.count g))

-- behind its fields a written block is blank
pub blank_returns : (p : List ℕ) (e : ℕ) → length p ≡ e → e ≤ 508 → unused_judged (block_from p) e ≡ Ok tt
blank_returns p e l h =
    let x = filled 508 p in
    let tail = le 2 (first_check x) ++ le 2 (second_check x) in
    let zero_at : (i : ℕ) → e ≤ i → i < 508 → get_or (block_from p) i 0 ≡ 0 =
    λ i low high.
    get_or_append_left x tail 0 i (omega (arith, length_filled 508 p (omega arith)))
    ∙ get_or-append_right p (replicate (508 - length p) 0) e i 0 l low
    ∙ get_or-replicate (508 - length p) (i - e) 0 0 (omega arith)
    in
    all_well (byte_judged (block_from p)) (508 - e) e
    (λ i low high.
    demand_holds (eqb (get_or (block_from p) i 0) 0) (flaws.Unused i) (Ok tt)
    (eq-eqb (get_or (block_from p) i 0) 0 (zero_at i low (omega arith))))

pub header_returns : (n code total : ℕ) → n < 2 ^ 16 → total < 2 ^ 32 → header_judged n code (1 + blocks_for total) (header n code total) ≡ Ok tt
header_returns n code total h g =
    let b = header n code total in
    let f = header_front code in
    let stations : value 2 b 8 ≡ n = number_le 2 n h in
    let sum : value 4 b 10 ≡ total = number_le 4 total g in
    let sizes : sizes_judged n (1 + blocks_for total) b ≡ Ok tt =
    demand_holds (eqb (value 2 b 8) n) flaws.Stations _ (eq-eqb (value 2 b 8) n stations)
    ∙ demand_holds (eqb (1 + blocks_for (value 4 b 10)) (1 + blocks_for total)) flaws.Total (Ok tt)
    (eq-eqb _ _ (ap (λ m. 1 + blocks_for m) sum))
    in
    ap (λ r. then r (then (sizes_judged n (1 + blocks_for total) b) (unused_judged b 14))) (front_returns f (le 2 n ++ le 4 total) (omega arith) (omega arith) (omega arith))
    ∙ ap (λ r. then r (unused_judged b 14)) sizes
    ∙ blank_returns (front f ++ (le 2 n ++ le 4 total)) 14 refl (omega arith)

regrouped : (a b c d e f : List ℕ) → ((a ++ (b ++ (c ++ d))) ++ e) ++ f ≡ (a ++ b) ++ (c ++ ((d ++ e) ++ f))
regrouped a b c d e f = simp append_assoc

-- a row whose fields fit their bytes
pub record Narrow (r : Row) : Type 0 where
  pub low : r.low < 2 ^ 16
  pub high : r.high < 2 ^ 16
  pub number : r.number < 2 ^ 64

-- the row at a place of a written block is the one that was written there
pub row_returns : (code k : ℕ) (rows : List Row) (p : ℕ) → p < length rows → Narrow (get_or rows p blank_row) → row_in (section_block code k rows) p ≡ get_or rows p blank_row
row_returns code k rows p h s =
    let two : 10 + 12 * p ≡ (8 + 12 * p) + 2 = omega arith in
    let four : 12 + 12 * p ≡ (8 + 12 * p) + 4 = omega arith in
    let nil : 8 + 12 * p ≡ (8 + 12 * p) + 0 = omega arith in
    let r = get_or rows p blank_row in
    let start = front (section_front k (length rows) code) in
    let fields = start ++ flat_map entry_of rows in
    let zeros = replicate (508 - length fields) 0 in
    let tail = le 2 (first_check (filled 508 fields)) ++ le 2 (second_check (filled 508 fields)) in
    let before = start ++ flat_map entry_of (take p rows) in
    let behind = (flat_map entry_of (drop (p + 1) rows) ++ zeros) ++ tail in
    let entries : flat_map entry_of rows ≡ flat_map entry_of (take p rows) ++ (entry_of r ++ flat_map entry_of (drop (p + 1) rows)) =
    ap (flat_map entry_of) (around rows p blank_row h) ∙ flat_map-append entry_of (take p rows) (r ∷ drop (p + 1) rows)
    in
    let split : section_block code k rows ≡ before ++ (entry_of r ++ behind) =
    ap (λ z. ((start ++ z) ++ zeros) ++ tail) entries
    ∙ regrouped start (flat_map entry_of (take p rows)) (entry_of r) (flat_map entry_of (drop (p + 1) rows)) zeros tail
    in
    let long : length before ≡ 8 + 12 * p = omega (arith, length_entries (take p rows), length-take-le p rows (omega arith)) in
    let low : value 2 (section_block code k rows) (8 + 12 * p) ≡ r.low =
    ap₂ (value 2) split nil ∙ value_past 2 (8 + 12 * p) 0 before (entry_of r ++ behind) long ∙ number_le 2 r.low s.low
    in
    let high : value 2 (section_block code k rows) (10 + 12 * p) ≡ r.high =
    ap₂ (value 2) split two ∙ value_past 2 (8 + 12 * p) 2 before (entry_of r ++ behind) long ∙ number_le 2 r.high s.high
    in
    let num : value 8 (section_block code k rows) (12 + 12 * p) ≡ r.number =
    ap₂ (value 8) split four ∙ value_past 8 (8 + 12 * p) 4 before (entry_of r ++ behind) long ∙ number_le 8 r.number s.number
    in
    λ i. record { low = low i; high = high i; number = num i }

pub sections_return : (n : ℕ) (readable : ℕ → Bool) (code k : ℕ) (before : Option Row) (rows : List Row) → length rows ≤ 41 → k < 2 ^ 32 → ((p : ℕ) → p < length rows → good_row n readable (row_before before (section_block code k rows) p) (row_in (section_block code k rows) p) ≡ true) → sections_judged n readable code k (length rows) before (section_block code k rows) ≡ Ok tt
sections_return n readable code k before rows l h good =
    let b = section_block code k rows in
    let count = length rows in
    let f = section_front k count code in
    let records = first_fault (record_judged n readable before b) count 0 in
    ap (λ r. then r (then (unused_judged b (8 + 12 * count)) records)) (front_returns f (flat_map entry_of rows) (omega (arith, length_entries rows)) h (omega arith))
    ∙ ap (λ r. then r records) (blank_returns (front f ++ flat_map entry_of rows) (8 + 12 * count) (omega (arith, length_entries rows)) (omega arith))
    ∙ all_well (record_judged n readable before b) count 0
    (λ p low high. demand_holds (good_row n readable (row_before before b p) (row_in b p)) (flaws.Record (8 + 12 * p)) (Ok tt) (good p (omega arith)))
