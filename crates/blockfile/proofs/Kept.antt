-- The file of fit rows is accepted, and gives them back.
use Rattle.std.proofs.Common.{◌≡◌, ℕ, zero, suc, ◌+◌, ◌-◌, ◌*◌, ◌/◌, ◌%◌, ◌^◌, ◌<◌, ◌≤◌, Bool, true, eqb, ltb, List, length, get_or, take, drop, Some, Ok, Option, sym, refl, ap, ◌∙◌, subst, ap₂, ⊎_elim, arith}
use Rattle.std.proofs.lemmas.Bool.{eq-eqb, lt-ltb, and_from, cases_eq}
use Rattle.std.proofs.lemmas.List.{take_at, get_or-take, get_or-drop, ext_get_or}
use Rattle.lists.specs.Bytes.{value}
use Rattle.lists.specs.Writes.{over}
use Rattle.lists.specs.Places.{then}
use Rattle.lists.proofs.Digits.{number_le}
use Rattle.lists.proofs.Failing.{demand_holds, all_well}
use Rattle.blockfile.specs.declared.row.Row.{Row}
use Rattle.blockfile.specs.declared.fault.FileFault.TheVariants.{Length}
use Rattle.blockfile.specs.Rows.{ahead, blank_row, FitRow, FitRows}
use Rattle.blockfile.specs.Blocks.{section_block, row_in}
use Rattle.blockfile.specs.Judging.{header_judged, sections_judged, good_row, follows, row_before, blocks_for, at_block}
use Rattle.blockfile.specs.Files.{chunk, file_of, file_size, whole_blocks, block_at, total_in, row_of, rows_of, before_block, block_judged, sections_of_file_judged, in_file, file_judged}
use Rattle.blockfile.specs.Laws.{ReadsBack}
use Rattle.blockfile.proofs.Chunks.{length_chunk, length_file, first_block, later_block}
use Rattle.blockfile.proofs.Accepted.{length_rows, row_is, prior_is, row_at_place}
use Rattle.blockfile.proofs.Returned.{Narrow, header_returns, row_returns, sections_return}

pub total_returns : (n code : ℕ) (rows : List Row) → length rows < 2 ^ 32 → total_in (file_of n code rows) ≡ length rows
total_returns n code rows h = ap (λ b. value 4 b 10) (first_block n code rows) ∙ number_le 4 (length rows) h

-- a fit row behind a row that it may follow is good
pub fit_good : (n : ℕ) (readable : ℕ → Bool) (before : Option Row) (r : Row) → FitRow n readable r → follows before r ≡ true → good_row n readable before r ≡ true
fit_good n readable before r f e =
    and_from (ltb r.low r.high) _ (lt-ltb r.low r.high f.ends)
    (and_from (ltb r.high n) _ (lt-ltb r.high n f.below) (and_from (readable r.number) (follows before r) f.reads e))

-- the first row of a file has none before it
pub follows_none : (file b : List ℕ) (j p : ℕ) (r : Row) → 41 * j + p ≡ 0 → follows (row_before (before_block file j) b p) r ≡ true
follows_none file b zero zero r e = refl
follows_none file b (suc j) zero r e = absurd (omega arith)
follows_none file b j (suc p) r e = absurd (omega arith)

module _ (n : ℕ) (readable : ℕ → Bool) (code : ℕ) (rows : List Row) (fit : FitRows n readable rows) (small : n < 2 ^ 16) (few : length rows ≤ 16384) where
  -- each row of the file is the one that was written
  row_back : (i : ℕ) → i < length rows → row_of (file_of n code rows) i ≡ get_or rows i blank_row
  row_back i h =
      let j = i / 41 in
      let p = i % 41 in
      let same : 41 * j + p ≡ i = omega arith in
      let here : get_or (chunk j rows) p blank_row ≡ get_or rows i blank_row =
      get_or-take 41 (drop (41 * j) rows) p blank_row (omega arith) ∙ get_or-drop (41 * j) rows p blank_row ∙ ap (λ k. get_or rows k blank_row) same
      in
      let f = fit.each i h in
      let narrow : Narrow (get_or rows i blank_row) =
      record { low = omega (arith, f.ends, f.below); high = omega (arith, f.below); number = f.eight }
      in
      ap (λ b. row_in b p) (later_block n code rows j (omega arith))
      ∙ row_returns code (j + 1) (chunk j rows) p (omega (arith, length_chunk j rows)) (subst Narrow (sym here) narrow)
      ∙ here

  pub rows_back : rows_of (file_of n code rows) ≡ rows
  rows_back =
      let total = total_returns n code rows (omega arith) in
      ext_get_or blank_row (rows_of (file_of n code rows)) rows (length_rows (file_of n code rows) ∙ total)
      (λ i h.
      let within : i < length rows = omega (arith, length_rows (file_of n code rows), total) in
      row_is (file_of n code rows) i blank_row (omega (arith, total)) ∙ row_back i within)

  -- each row may follow the one before it
  follows_back : (j p : ℕ) → p < 41 → 41 * j + p < length rows → follows (row_before (before_block (file_of n code rows) j) (block_at (j + 1) (file_of n code rows)) p) (get_or rows (41 * j + p) blank_row) ≡ true
  follows_back j p h l =
      let file = file_of n code rows in
      let i = 41 * j + p in
      ⊎_elim
      (λ (e : i ≡ 0). follows_none file (block_at (j + 1) file) j p (get_or rows i blank_row) e)
      (λ (e : i ≡ 0 → ⊥).
      let back : (i - 1) + 1 ≡ i = omega arith in
      ap (λ q. follows q (get_or rows i blank_row)) (prior_is file j p (i - 1) back h ∙ ap Some (row_back (i - 1) (omega arith)))
      ∙ ap (λ k. ahead (get_or rows (i - 1) blank_row) (get_or rows k blank_row)) (sym back)
      ∙ fit.rising (i - 1) (omega arith))
      (cases_eq i 0)

  good_back : (j p : ℕ) → p < 41 → 41 * j + p < length rows → good_row n readable (row_before (before_block (file_of n code rows) j) (block_at (j + 1) (file_of n code rows)) p) (row_in (block_at (j + 1) (file_of n code rows)) p) ≡ true
  good_back j p h l =
      let file = file_of n code rows in
      let before = row_before (before_block file j) (block_at (j + 1) file) p in
      ap (good_row n readable before) (sym (row_at_place file j p h) ∙ row_back (41 * j + p) l)
      ∙ fit_good n readable before (get_or rows (41 * j + p) blank_row) (fit.each (41 * j + p) l) (follows_back j p h l)

  accepted_block : (j : ℕ) → j < blocks_for (length rows) → block_judged n readable code (file_of n code rows) (length rows) j ≡ Ok tt
  accepted_block j h =
      let file = file_of n code rows in
      let before = before_block file j in
      let block = later_block n code rows j h in
      let long = length_chunk j rows in
      let accepted : sections_judged n readable code (j + 1) (length (chunk j rows)) before (section_block code (j + 1) (chunk j rows)) ≡ Ok tt =
      sections_return n readable code (j + 1) before (chunk j rows) (omega arith) (omega arith)
      (λ p l.
      ap (λ b. good_row n readable (row_before before b p) (row_in b p)) (sym block) ∙ good_back j p (omega arith) (omega arith))
      in
      ap₂ (λ c b. at_block (j + 1) (sections_judged n readable code (j + 1) c before b)) (sym long) block
      ∙ ap (at_block (j + 1)) accepted

  pub accepted_back : file_judged n readable code (file_of n code rows) ≡ Ok (length rows)
  accepted_back =
      let file = file_of n code rows in
      let size = length_file n code rows in
      let total = total_returns n code rows (omega arith) in
      let blocks : length file / 512 ≡ 1 + blocks_for (length rows) = omega (arith, size) in
      let whole : whole_blocks (length file) ≡ true =
      and_from (ltb 0 (length file)) (eqb (length file % 512) 0) (lt-ltb 0 (length file) (omega (arith, size))) (eq-eqb (length file % 512) 0 (omega (arith, size)))
      in
      let head : at_block 0 (header_judged n code (length file / 512) (block_at 0 file)) ≡ Ok tt =
      ap₂ (λ k b. at_block 0 (header_judged n code k b)) blocks (first_block n code rows)
      ∙ ap (at_block 0) (header_returns n code (length rows) small (omega arith))
      in
      let sections : sections_of_file_judged n readable code file ≡ Ok tt =
      all_well (block_judged n readable code file (total_in file)) (length file / 512 - 1) 0
      (λ j low high. ap (λ m. block_judged n readable code file m j) total ∙ accepted_block j (omega (arith, blocks)))
      in
      demand_holds (whole_blocks (length file)) Length _ whole
      ∙ ap₂ (λ r q. then (in_file r) (then (in_file q) (Ok (total_in file)))) head sections
      ∙ ap Ok total

-- the front of a buffer that was written to reads back
pub reads_back : (n code : ℕ) (rows : List Row) (d out : List ℕ) (k : ℕ) → n < 2 ^ 16 → length rows ≤ 16384 → k ≡ blocks_for (length rows) → out ≡ over d 0 (file_of n code rows) → ReadsBack n code rows (take (512 * (1 + k)) out)
reads_back n code rows d out k small few e f readable fit =
    let file = file_of n code rows in
    let same : take (512 * (1 + k)) out ≡ file =
    ap₂ (λ j b. take (512 * (1 + j)) b) e f
    ∙ take_at file (drop (0 + length file) d) (file_size (length rows)) (length_file n code rows)
    in (
      ap (file_judged n readable code) same ∙ accepted_back n readable code rows fit small few,
      ap rows_of same ∙ rows_back n readable code rows fit small few,
    )
