-- An accepted block is the written block of what stands in it.
use Rattle.std.proofs.Common.{◌≡◌, ℕ, zero, suc, ◌+◌, ◌-◌, ◌*◌, ◌<◌, ◌≤◌, Bool, true, eqb, List, [], ◌∷◌, ◌++◌, map, length, get_or, take, drop, replicate, Ok, Option, sym, refl, ap, ◌∙◌, ap₂, append_assoc, add-one, arith, take-append-drop}
use Rattle.std.specs.List.{range_with_len, flat_map}
use Rattle.std.proofs.Math.Seq.{take-add}
use Rattle.std.proofs.lemmas.Bool.{eqb-true, and_parts}
use Rattle.std.proofs.lemmas.List.{drop_more, drop_all, append-nil, drop-drop, get_or-drop, get_or-take, flat_map_more}
use Rattle.std.proofs.lemmas.List.FromFn.{map-range_with_len_more, length-map-range_with_len}
use Rattle.lists.specs.Bytes.{le, value, Bytes}
use Rattle.lists.specs.Writes.{filled}
use Rattle.lists.proofs.Cuts.{zeros_are, length_part}
use Rattle.lists.proofs.Digits.{field_cut}
use Rattle.lists.proofs.Failing.{demand_ok, none_at}
use Rattle.blockfile.specs.declared.block.Front.{Front}
use Rattle.blockfile.specs.declared.row.Row.{Row}
use Rattle.blockfile.specs.declared.fault.Flaw.TheVariants as flaws
use Rattle.blockfile.specs.Blocks.{kind_byte, first_check, second_check, checks_hold, sealed, block_from, front, header_front, section_front, header, entry_of, section_block, row_in}
use Rattle.blockfile.specs.Judging.{front_judged, unused_judged, byte_judged}
use Rattle.blockfile.proofs.Sums.{first_take, second_take}
use Rattle.blockfile.proofs.Passed.{HeaderOk, SectionsOk}

-- what the front of an accepted block holds
pub record Fronted (b : List ℕ) (f : Front) : Type 0 where
  pub checks : checks_hold b ≡ true
  pub number : value 4 b 0 ≡ f.number
  pub kind : get_or b 6 0 ≡ kind_byte f.kind
  pub code : get_or b 7 0 ≡ f.code
  pub count : value 2 b 4 ≡ f.count

pub front_ok : (b : List ℕ) (f : Front) → front_judged b f ≡ Ok tt → Fronted b f
front_ok b f e =
    let checks = demand_ok (checks_hold b) flaws.Check _ tt e in
    let number = demand_ok (eqb (value 4 b 0) f.number) flaws.Number _ tt checks.1 in
    let kind = demand_ok (eqb (get_or b 6 0) (kind_byte f.kind)) flaws.Kind _ tt number.1 in
    let code = demand_ok (eqb (get_or b 7 0) f.code) flaws.Measure _ tt kind.1 in
    let count = demand_ok (eqb (value 2 b 4) f.count) flaws.Count (Ok tt) tt code.1 in
    record {
      checks = checks.0;
      number = eqb-true (value 4 b 0) f.number number.0;
      kind = eqb-true (get_or b 6 0) (kind_byte f.kind) kind.0;
      code = eqb-true (get_or b 7 0) f.code code.0;
      count = eqb-true (value 2 b 4) f.count count.0;
    }

-- a block whose check sums hold is sealed
pub sealed_since : (b : List ℕ) → length b ≡ 512 → Bytes b → checks_hold b ≡ true → b ≡ sealed (take 508 b)
sealed_since b l h e =
    let parts = and_parts (eqb (value 2 b 508) (first_check b)) (eqb (value 2 b 510) (second_check b)) e in
    let first : value 2 b 508 ≡ first_check (take 508 b) = eqb-true (value 2 b 508) (first_check b) parts.0 ∙ first_take b (omega arith) in
    let second : value 2 b 510 ≡ second_check (take 508 b) = eqb-true (value 2 b 510) (second_check b) parts.1 ∙ second_take b (omega arith) in
    sym (take-append-drop 508 b)
    ∙ ap (λ z. take 508 b ++ z)
    (field_cut 2 b 508 h (omega arith)
    ∙ ap₂ (λ x y. le 2 x ++ y) first
    (field_cut 2 b 510 h (omega arith) ∙ ap₂ (λ x y. le 2 x ++ y) second (drop_all 512 b (omega arith)) ∙ append-nil (le 2 (second_check (take 508 b)))))

-- a block begins with its front
pub front_since : (b : List ℕ) (f : Front) → length b ≡ 512 → Bytes b → Fronted b f → b ≡ front f ++ drop 8 b
front_since b f l h s =
    field_cut 4 b 0 h (omega arith)
    ∙ ap₂ (λ x y. le 4 x ++ y) s.number
    (field_cut 2 b 4 h (omega arith)
    ∙ ap₂ (λ x y. le 2 x ++ y) s.count
    (drop_more b 6 0 (omega arith) ∙ ap₂ (λ x y. x ∷ y) s.kind (drop_more b 7 0 (omega arith) ∙ ap (λ x. x ∷ drop 8 b) s.code)))

-- behind its fields a block is blank
pub blank_since : (b : List ℕ) (e : ℕ) → length b ≡ 512 → 8 ≤ e → e ≤ 508 → unused_judged b e ≡ Ok tt → take 500 (drop 8 b) ≡ take (e - 8) (drop 8 b) ++ replicate (508 - e) 0
blank_since b e l g h u =
    let rest = take (508 - e) (drop (e - 8) (drop 8 b)) in
    let same : drop (e - 8) (drop 8 b) ≡ drop e b = let n : 8 + (e - 8) ≡ e = omega arith in drop-drop (e - 8) 8 b ∙ ap (λ n. drop n b) n in
    let each : (i : ℕ) → i < 508 - e → get_or rest i 0 ≡ 0 =
    λ i k.
    get_or-take (508 - e) (drop (e - 8) (drop 8 b)) i 0 k ∙ ap (λ x. get_or x i 0) same ∙ get_or-drop e b i 0
    ∙ eqb-true (get_or b (e + i) 0) 0
    (demand_ok (eqb (get_or b (e + i) 0) 0) (flaws.Unused (e + i)) (Ok tt) tt (none_at (byte_judged b) (508 - e) e u (e + i) (omega arith) (omega arith))).0
    in
    let long : length rest ≡ 508 - e = ap (λ x. length (take (508 - e) x)) same ∙ length_part (508 - e) e b (omega arith) in
    let split : 500 ≡ (e - 8) + (508 - e) = omega arith in
    ap (λ n. take n (drop 8 b)) split
    ∙ take-add (e - 8) (508 - e) (drop 8 b)
    ∙ ap (λ z. take (e - 8) (drop 8 b) ++ z) (zeros_are rest (508 - e) long each)

-- a block that was accepted so far, whose fields end at e, is the block that is written from them
pub block_since : (b : List ℕ) (f : Front) (e : ℕ) → length b ≡ 512 → Bytes b → 8 ≤ e → e ≤ 508 → Fronted b f → unused_judged b e ≡ Ok tt → b ≡ block_from (front f ++ take (e - 8) (drop 8 b))
block_since b f e l h g k s u =
    let fields = front f ++ take (e - 8) (drop 8 b) in
    let long : length fields ≡ e = omega (arith, length_part (e - 8) 8 b (omega arith)) in
    let body : take 508 b ≡ filled 508 fields =
    ap (take 508) (front_since b f l h s)
    ∙ ap (λ z. front f ++ z) (blank_since b e l g k u)
    ∙ sym (append_assoc (front f) (take (e - 8) (drop 8 b)) (replicate (508 - e) 0))
    ∙ ap (λ n. fields ++ replicate (508 - n) 0) (sym long)
    in
    sealed_since b l h s.checks ∙ ap sealed body

-- an accepted header is the one that is written
pub header_since : (n code blocks : ℕ) (b : List ℕ) → length b ≡ 512 → Bytes b → HeaderOk n code blocks b → b ≡ header n code (value 4 b 10)
header_since n code blocks b l h s =
    let fields : take 6 (drop 8 b) ≡ le 2 n ++ le 4 (value 4 b 10) =
    ap (take 6)
    (field_cut 2 b 8 h (omega arith) ∙ ap₂ (λ x y. le 2 x ++ y) s.sized.stations (field_cut 4 b 10 h (omega arith)))
    in
    block_since b (header_front code) 14 l h (omega arith) (omega arith) (front_ok b (header_front code) s.front) s.unused
    ∙ ap (λ z. block_from (front (header_front code) ++ z)) fields

-- the twelve bytes at a place are those of the row that stands there
pub entry_since : (b : List ℕ) (p : ℕ) → Bytes b → 20 + 12 * p ≤ length b → take 12 (drop (8 + 12 * p) b) ≡ entry_of (row_in b p)
entry_since b p h l =
    let second : (8 + 12 * p) + 2 ≡ 10 + 12 * p = omega arith in
    let third : (10 + 12 * p) + 2 ≡ 12 + 12 * p = omega arith in
    ap (take 12)
    (field_cut 2 b (8 + 12 * p) h (omega arith)
    ∙ ap (λ z. le 2 (value 2 b (8 + 12 * p)) ++ z)
    (ap (λ n. drop n b) second ∙ field_cut 2 b (10 + 12 * p) h (omega arith)
    ∙ ap (λ z. le 2 (value 2 b (10 + 12 * p)) ++ z)
    (ap (λ n. drop n b) third ∙ field_cut 8 b (12 + 12 * p) h (omega arith))))

-- the rows at the first places of a block
abbrev pub rows_in : List ℕ → ℕ → List Row
rows_in b c = map (row_in b) (range_with_len 0 c)

pub entries_since : (b : List ℕ) (c : ℕ) → Bytes b → 8 + 12 * c ≤ length b → take (12 * c) (drop 8 b) ≡ flat_map entry_of (rows_in b c)
entries_since b zero h l = refl
entries_since b (suc c) h l =
    let twelve : 12 * suc c ≡ 12 * c + 12 = omega arith in
    let more : rows_in b (suc c) ≡ rows_in b c ++ row_in b c ∷ [] = ap (rows_in b) (sym (add-one c)) ∙ map-range_with_len_more (row_in b) 0 c c (omega arith) in
    ap (λ n. take n (drop 8 b)) twelve
    ∙ take-add (12 * c) 12 (drop 8 b)
    ∙ ap₂ (λ x y. x ++ y) (entries_since b c h (omega arith)) (ap (take 12) (drop-drop (12 * c) 8 b) ∙ entry_since b c h (omega arith))
    ∙ flat_map_more entry_of [] (rows_in b c) (row_in b c)
    ∙ ap (flat_map entry_of) (sym more)

-- an accepted section block is the one that is written from its rows
pub sections_since : (n : ℕ) (readable : ℕ → Bool) (code k c : ℕ) (before : Option Row) (b : List ℕ) → length b ≡ 512 → Bytes b → c ≤ 41 → SectionsOk n readable code k c before b → b ≡ section_block code k (rows_in b c)
sections_since n readable code k c before b l h few s =
    let twelve : (8 + 12 * c) - 8 ≡ 12 * c = omega arith in
    let long : c ≡ length (rows_in b c) = sym (length-map-range_with_len (row_in b) 0 c) in
    block_since b (section_front k c code) (8 + 12 * c) l h (omega arith) (omega arith) (front_ok b (section_front k c code) s.front) s.unused
    ∙ ap₂ (λ m z. block_from (front (section_front k m code) ++ z)) long
    (ap (λ n. take n (drop 8 b)) twelve ∙ entries_since b c h (omega arith))
