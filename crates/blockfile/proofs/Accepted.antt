-- An accepted file is the written file of its rows, and its rows are fit.
use Rattle.std.proofs.Common.{◌≡◌, ℕ, zero, suc, ◌+◌, ◌-◌, ◌*◌, ◌/◌, ◌%◌, ◌<◌, ◌≤◌, min, Bool, true, List, ◌++◌, length, get_or, take, drop, IfOk, Some, Ok, Err, Result, sym, ap, ◌∙◌, subst, ap₂, append_assoc, arith}
use Rattle.std.proofs.Math.Seq.{take-add}
use Rattle.std.proofs.lemmas.List.{take_all, append-nil, same_lists, get_or-take, get_or-drop}
use Rattle.std.proofs.lemmas.List.FromFn.{get_or-map-range_with_len, length-map-range_with_len}
use Rattle.std.proofs.ByRecursion.{All-take, All-drop}
use Rattle.lists.specs.Bytes.{Bytes}
use Rattle.lists.proofs.Digits.{value_lt}
use Rattle.lists.proofs.Cuts.{length_part}
use Rattle.blockfile.specs.declared.row.Row.{Row}
use Rattle.blockfile.specs.declared.fault.FileFault.{FileFault}
use Rattle.blockfile.specs.Laws.{Accepted}
use Rattle.blockfile.specs.Rows.{ahead, blank_row, FitRow, FitRows}
use Rattle.blockfile.specs.Blocks.{header, section_block, row_in}
use Rattle.blockfile.specs.Judging.{blocks_for, row_before, good_row, follows}
use Rattle.blockfile.specs.Files.{chunk, section_part, file_of, file_size, file_judged, block_at, total_in, row_of, rows_of, count_in, before_block}
use Rattle.blockfile.proofs.Chunks.{length_chunk}
use Rattle.blockfile.proofs.Passed.{FileOk, file_ok, fit_row, good_follows}
use Rattle.blockfile.proofs.Whole.{header_since, sections_since, rows_in}

pub length_rows : (file : List ℕ) → length (rows_of file) ≡ total_in file
length_rows file = length-map-range_with_len (row_of file) 0 (total_in file)

pub row_is : (file : List ℕ) (i : ℕ) (d : Row) → i < total_in file → get_or (rows_of file) i d ≡ row_of file i
row_is file i d h = get_or-map-range_with_len (row_of file) 0 (total_in file) i i d h (omega arith)

-- row 41 * j + i of a file stands at place i of section block j + 1
pub row_at_place : (file : List ℕ) (j i : ℕ) → i < 41 → row_of file (41 * j + i) ≡ row_in (block_at (j + 1) file) i
row_at_place file j i h =
    let block : (41 * j + i) / 41 ≡ j = omega arith in
    let place : (41 * j + i) % 41 ≡ i = omega arith in
    ap₂ (λ k p. row_in (block_at (k + 1) file) p) block place

-- the rows of a section block of a file are those at its places
pub chunk_is : (file : List ℕ) (j : ℕ) → chunk j (rows_of file) ≡ rows_in (block_at (j + 1) file) (count_in (total_in file) j)
chunk_is file j =
    let m = total_in file in
    let b = block_at (j + 1) file in
    let long : length (chunk j (rows_of file)) ≡ count_in m j = length_chunk j (rows_of file) ∙ ap (λ n. min 41 (n - 41 * j)) (length_rows file) in
    same_lists (chunk j (rows_of file)) (rows_in b (count_in m j)) (long ∙ sym (length-map-range_with_len (row_in b) 0 (count_in m j)))
    (λ i d h.
    get_or-take 41 (drop (41 * j) (rows_of file)) i d (omega arith)
    ∙ get_or-drop (41 * j) (rows_of file) i d
    ∙ row_is file (41 * j + i) d (omega arith)
    ∙ row_at_place file j i (omega arith)
    ∙ sym (get_or-map-range_with_len (row_in b) 0 (count_in m j) i i d (omega arith) (omega arith)))

pub bytes_block : (file : List ℕ) (k : ℕ) → Bytes file → Bytes (block_at k file)
bytes_block file k h = All-take _ 512 (drop (k * 512) file) (All-drop _ (k * 512) file h)

-- the row before row i + 1, as a block is judged, is row i
pub prior_is : (file : List ℕ) (j p i : ℕ) → i + 1 ≡ 41 * j + p → p < 41 → row_before (before_block file j) (block_at (j + 1) file) p ≡ Some (row_of file i)
prior_is file zero zero i e h = absurd (omega arith)
prior_is file (suc j) zero i e h =
    let last : 41 * j + 40 ≡ i = omega arith in
    ap Some (sym (row_at_place file j 40 (omega arith)) ∙ ap (row_of file) last)
prior_is file j (suc p) i e h =
    let here : 41 * j + p ≡ i = omega arith in
    ap Some (sym (row_at_place file j p (omega arith)) ∙ ap (row_of file) here)

module _ (n : ℕ) (readable : ℕ → Bool) (code : ℕ) (file : List ℕ) (total : ℕ) (ok : FileOk n readable code file total) (bytes : Bytes file) where
  -- the header and the first j section blocks
  blocks_are : (j : ℕ) → j ≤ blocks_for (total_in file) → take (512 + 512 * j) file ≡ header n code (total_in file) ++ section_part code (rows_of file) j
  unfolding section_part
  blocks_are zero l =
      let size = ok.size in
      header_since n code (length file / 512) (block_at 0 file) (length_part 512 0 file (omega arith)) (bytes_block file 0 bytes) ok.header
      ∙ sym (append-nil (header n code (total_in file)))
  blocks_are (suc j) l =
      let size = ok.size in
      let b = block_at (j + 1) file in
      let count = count_in (total_in file) j in
      let next : 512 + 512 * suc j ≡ (512 + 512 * j) + 512 = omega arith in
      let place : 512 + 512 * j ≡ (j + 1) * 512 = omega arith in
      let block : b ≡ section_block code (j + 1) (chunk j (rows_of file)) =
      sections_since n readable code (j + 1) count (before_block file j) b
      (length_part 512 ((j + 1) * 512) file (omega arith)) (bytes_block file (j + 1) bytes) (omega arith) (ok.sections j l)
      ∙ ap (section_block code (j + 1)) (sym (chunk_is file j))
      in
      ap (λ k. take k file) next
      ∙ take-add (512 + 512 * j) 512 file
      ∙ ap₂ (λ x y. x ++ y) (blocks_are j (omega arith)) (ap (λ k. take 512 (drop k file)) place ∙ block)
      ∙ append_assoc (header n code (total_in file)) (section_part code (rows_of file) j) (section_block code (j + 1) (chunk j (rows_of file)))

  pub one_file : file ≡ file_of n code (rows_of file)
  one_file =
      let size = ok.size in
      let long = blocks_for (total_in file) in
      sym (take_all (512 + 512 * long) file (omega arith))
      ∙ blocks_are long (omega arith)
      ∙ ap (λ m. header n code m ++ section_part code (rows_of file) (blocks_for m)) (sym (length_rows file))

  -- row i was judged good behind the row before it
  good_at : (i : ℕ) → i < total_in file → good_row n readable (row_before (before_block file (i / 41)) (block_at (i / 41 + 1) file) (i % 41)) (row_of file i) ≡ true
  good_at i h = (ok.sections (i / 41) (omega arith)).records (i % 41) (omega arith)

  pub fit_rows : FitRows n readable (rows_of file)
  fit_rows =
      record {
        each =
            λ i h.
            let size = ok.size in
            let within : i < total_in file = omega (arith, length_rows file) in
            let fit : FitRow n readable (row_of file i) = fit_row n readable _ (row_of file i) (good_at i within)
            (value_lt 8 (block_at (i / 41 + 1) file) (12 + 12 * (i % 41)) (bytes_block file (i / 41 + 1) bytes)
            (omega (arith, length_part 512 ((i / 41 + 1) * 512) file (omega arith))))
            in
            subst (FitRow n readable) (sym (row_is file i blank_row within)) fit;
        rising =
            λ i h.
            let within : i + 1 < total_in file = omega (arith, length_rows file) in
            let follows_on = good_follows n readable _ (row_of file (i + 1)) (good_at (i + 1) within) in
            ap₂ ahead (row_is file i blank_row (omega arith)) (row_is file (i + 1) blank_row within)
            ∙ ap (λ p. follows p (row_of file (i + 1))) (sym (prior_is file ((i + 1) / 41) ((i + 1) % 41) i (omega arith) (omega arith)))
            ∙ follows_on;
      }

-- what a judged file is, where it was accepted
pub accepted_is : (n : ℕ) (readable : ℕ → Bool) (code : ℕ) (file : List ℕ) (r : Result ℕ FileFault) → r ≡ file_judged n readable code file → Bytes file → IfOk r (λ total. Accepted n readable code file total)
accepted_is n readable code file (Err f) e h = tt
accepted_is n readable code file (Ok total) e h =
    let ok = file_ok n readable code file total (sym e) in
    record {
      count = length_rows file ∙ sym ok.sum;
      size = ok.size ∙ ap file_size (sym ok.sum);
      fit = fit_rows n readable code file total ok h;
      only = one_file n readable code file total ok h;
    }
