-- The section blocks of a file, one behind the other.
use Rattle.std.proofs.Common.{◌≡◌, ℕ, zero, suc, ◌+◌, ◌-◌, ◌*◌, ◌/◌, ◌<◌, ◌≤◌, min, List, [], ◌++◌, length, get_or, take, drop, Some, sym, refl, ap, ◌∙◌, ap₂, ⊎_elim, add-one, arith, length-append, length-drop, length-take}
use Rattle.std.proofs.lemmas.Bool.{cases_lt}
use Rattle.std.proofs.lemmas.List.{take_all, take_at, drop_at, drop-drop, take-append-le, drop-append-le, get_or-take, get_or-drop}
use Rattle.lists.specs.Writes.{over}
use Rattle.lists.proofs.Cuts.{length-first_chunks, get_or-first_chunks, take_short, drop_short}
use Rattle.lists.proofs.Writing.{over_over}
use Rattle.blockfile.specs.declared.row.Row.{Row}
use Rattle.std.specs.List.{flat_map}
use Rattle.std.specs.Simd.{first_chunks}
use Rattle.lists.specs.Bytes.{le}
use Rattle.blockfile.specs.Blocks.{front, header_front, header, section_front, entry_of, section_block, row_in}
use Rattle.blockfile.specs.Judging.{blocks_for}
use Rattle.blockfile.specs.Files.{chunk, section_part, file_of, file_size, block_at, before_block}
use Rattle.blockfile.proofs.Building.{length_block, length_entries}

pub length_chunk : (j : ℕ) (rows : List Row) → length (chunk j rows) ≡ min 41 (length rows - 41 * j)
length_chunk j rows = length-take 41 (drop (41 * j) rows) ∙ ap (min 41) (length-drop (41 * j) rows)

pub length_section_block : (code k : ℕ) (rows : List Row) → length rows ≤ 41 → length (section_block code k rows) ≡ 512
length_section_block code k rows l =
    length_block (front (section_front k (length rows) code) ++ flat_map entry_of rows) (omega (arith, length_entries rows))

pub length_section_part : (code : ℕ) (rows : List Row) (j : ℕ) → length (section_part code rows j) ≡ 512 * j
unfolding section_part
length_section_part code rows zero = refl
length_section_part code rows (suc j) =
    let block = length_section_block code (j + 1) (chunk j rows) (omega (arith, length_chunk j rows)) in
    length-append (section_part code rows j) (section_block code (j + 1) (chunk j rows)) ∙ omega (arith, length_section_part code rows j, block)

pub section_part_more : (code : ℕ) (rows : List Row) (j : ℕ) → section_part code rows (j + 1) ≡ section_part code rows j ++ section_block code (j + 1) (chunk j rows)
unfolding section_part
section_part_more code rows j = ap (section_part code rows) (add-one j)

-- one more block behind those that are written
pub blocks_more : (d : List ℕ) (code : ℕ) (rows : List Row) (j : ℕ) (b s : List ℕ) → 512 ≤ length d → b ≡ over d 512 (section_part code rows j) → s ≡ section_block code (j + 1) (chunk j rows) → over b ((j + 1) * 512) s ≡ over d 512 (section_part code rows (j + 1))
blocks_more d code rows j b s l e f =
    let block = section_block code (j + 1) (chunk j rows) in
    ap₂ (λ x y. over x ((j + 1) * 512) y) e f
    ∙ over_over d 512 ((j + 1) * 512) (section_part code rows j) block l (omega (arith, length_section_part code rows j))
    ∙ ap (over d 512) (sym (section_part_more code rows j))

-- the next piece of the rows that are left, and what is left then
pub record NextChunk (rows : List Row) (j : ℕ) (part next : List Row) : Type 0 where
  pub taken : part ≡ chunk j rows
  pub left : next ≡ drop (41 * (j + 1)) rows

pub next_chunk : (rows : List Row) (j size : ℕ) (rest part next : List Row) → size ≡ 41 → rest ≡ drop (41 * j) rows → rest ≡ part ++ next → length part ≡ min size (length rest) → NextChunk rows j part next
next_chunk rows j size rest part next s e f l =
    let all = drop (41 * j) rows in
    let both : part ++ next ≡ all = sym f ∙ e in
    let count : min (length all) 41 ≡ length part = omega (arith, ap length e) in
    let more : 41 * j + 41 ≡ 41 * (j + 1) = omega arith in
    record {
      taken = sym (take_at part next (length part) refl) ∙ ap₂ take (sym count) both ∙ take_short 41 all;
      left = sym (drop_at part next (length part) refl) ∙ ap₂ drop (sym count) both ∙ drop_short 41 all
          ∙ drop-drop 41 (41 * j) rows ∙ ap (λ n. drop n rows) more;
    }

pub before_is : (file : List ℕ) (j : ℕ) → 0 < j → before_block file j ≡ Some (row_in (block_at j file) 40)
before_is file zero h = absurd (omega arith)
before_is file (suc j) h = ap (λ k. Some (row_in (block_at k file) 40)) (add-one j)

pub length_header : (n code total : ℕ) → length (header n code total) ≡ 512
length_header n code total = length_block (front (header_front code) ++ (le 2 n ++ le 4 total)) (omega arith)

-- the header in front and the section blocks behind it are the file
pub file_over : (n code : ℕ) (d : List ℕ) (rows : List Row) → over (over d 0 (header n code (length rows))) 512 (section_part code rows (blocks_for (length rows))) ≡ over d 0 (file_of n code rows)
file_over n code d rows =
    over_over d 0 512 (header n code (length rows)) (section_part code rows (blocks_for (length rows))) (omega arith)
    (omega (arith, length_header n code (length rows)))

-- each section block of a file stands at its place
pub part_block : (code : ℕ) (rows : List Row) (blocks j : ℕ) → j < blocks → take 512 (drop (512 * j) (section_part code rows blocks)) ≡ section_block code (j + 1) (chunk j rows)
unfolding section_part
part_block code rows zero j h = absurd (omega arith)
part_block code rows (suc blocks) j h =
    let part = section_part code rows blocks in
    let last = section_block code (blocks + 1) (chunk blocks rows) in
    let long = length_section_part code rows blocks in
    ⊎_elim
    (λ (less : j < blocks).
    ap (take 512) (drop-append-le (512 * j) part last (omega arith))
    ∙ take-append-le 512 (drop (512 * j) part) last (rw length-drop (omega arith))
    ∙ part_block code rows blocks j less)
    (λ (more : blocks ≤ j).
    let same : blocks ≡ j = omega arith in
    ap (take 512) (drop_at part last (512 * j) (omega arith))
    ∙ take_all 512 last (omega (arith, length_section_block code (blocks + 1) (chunk blocks rows) (omega (arith, length_chunk blocks rows))))
    ∙ ap (λ k. section_block code (k + 1) (chunk k rows)) same)
    (cases_lt j blocks)

pub length_file : (n code : ℕ) (rows : List Row) → length (file_of n code rows) ≡ file_size (length rows)
length_file n code rows =
    length-append (header n code (length rows)) (section_part code rows (blocks_for (length rows)))
    ∙ omega (arith, length_header n code (length rows), length_section_part code rows (blocks_for (length rows)))

pub first_block : (n code : ℕ) (rows : List Row) → block_at 0 (file_of n code rows) ≡ header n code (length rows)
first_block n code rows = take_at (header n code (length rows)) (section_part code rows (blocks_for (length rows))) 512 (length_header n code (length rows))

pub later_block : (n code : ℕ) (rows : List Row) (j : ℕ) → j < blocks_for (length rows) → block_at (j + 1) (file_of n code rows) ≡ section_block code (j + 1) (chunk j rows)
later_block n code rows j h =
    let head = header n code (length rows) in
    let part = section_part code rows (blocks_for (length rows)) in
    let place : (j + 1) * 512 ≡ 512 + 512 * j = omega arith in
    ap (λ k. take 512 (drop k (head ++ part))) place
    ∙ ap (take 512) (sym (drop-drop (512 * j) 512 (head ++ part)) ∙ ap (drop (512 * j)) (drop_at head part 512 (length_header n code (length rows))))
    ∙ part_block code rows (blocks_for (length rows)) j h

-- a file cut into blocks
pub block_is : (file : List ℕ) (k i : ℕ) → i < k → get_or (first_chunks 512 k file) i [] ≡ block_at i file
block_is file k i h =
    let place : 512 * i ≡ i * 512 = omega arith in
    get_or-first_chunks 512 k file i [] h ∙ ap (λ at. take 512 (drop at file)) place

-- the blocks behind the header, as a slice of all blocks
abbrev pub behind_header : List (List ℕ) → List (List ℕ)
behind_header blocks = take (length blocks - 1) (drop 1 blocks)

pub length_behind : (file : List ℕ) (blocks : List (List ℕ)) → blocks ≡ first_chunks 512 (length file / 512) file → length (behind_header blocks) ≡ length file / 512 - 1
length_behind file blocks e =
    let count = length-first_chunks 512 (length file / 512) file in
    simp (length-take, length-drop) (omega (arith, ap length e, count))

-- a turn of a loop over them
pub record SectionTurn (file : List ℕ) (blocks : List (List ℕ)) (j : ℕ) : Type 0 where
  pub within : j < length file / 512 - 1
  pub block : get_or (behind_header blocks) j [] ≡ block_at (j + 1) file

pub at_turn : (file : List ℕ) (blocks : List (List ℕ)) (j : ℕ) → blocks ≡ first_chunks 512 (length file / 512) file → j < length (behind_header blocks) → SectionTurn file blocks j
at_turn file blocks j e h =
    let within : j < length file / 512 - 1 = omega (arith, length_behind file blocks e) in
    let next : 1 + j ≡ j + 1 = omega arith in
    let count = length-first_chunks 512 (length file / 512) file in
    record {
      within = within;
      block = get_or-take (length blocks - 1) (drop 1 blocks) j [] (omega (arith, ap length e, count))
          ∙ get_or-drop 1 blocks j []
          ∙ ap₂ (λ bs i. get_or bs i []) e next
          ∙ block_is file (length file / 512) (j + 1) (omega arith);
    }
