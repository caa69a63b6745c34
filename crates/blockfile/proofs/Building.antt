-- A block is built by writes one behind the other, and then sealed.
use Rattle.std.proofs.Common.{◌≡◌, ℕ, ◌+◌, ◌*◌, ◌<◌, ◌≤◌, List, [], ◌∷◌, ◌++◌, length, get_or, take, sym, refl, ap, ◌∙◌, ap₂, arith, length-append}
use Rattle.std.specs.List.{flat_map}
use Rattle.std.proofs.lemmas.List.{flat_map_more, take_more, length-take-le}
use Rattle.lists.specs.Bytes.{le}
use Rattle.lists.specs.Writes.{over, filled}
use Rattle.lists.proofs.Writing.{over_over, over_end, take_filled, length_filled}
use Rattle.blockfile.specs.declared.row.Row.{Row}
use Rattle.blockfile.specs.Rows.{blank_row}
use Rattle.blockfile.specs.Blocks.{first_check, second_check, sealed, block_from, entry_of}
use Rattle.blockfile.proofs.Sums.{first_take, second_take}

pub length_entries : (rows : List Row) → length (flat_map entry_of rows) ≡ 12 * length rows
length_entries [] = refl
length_entries (r ∷ rows) = let h = length_entries rows in omega (arith, h)

-- one more record behind those that are written
pub entries_more : (d : List ℕ) (rows : List Row) (i : ℕ) (r : Row) → 8 ≤ length d → i < length rows → r ≡ get_or rows i blank_row → over (over d 8 (flat_map entry_of (take i rows))) (8 + 12 * i) (entry_of r) ≡ over d 8 (flat_map entry_of (take (i + 1) rows))
entries_more d rows i r l h e =
    let long : length (take i rows) ≡ i = length-take-le i rows (omega arith) in
    over_over d 8 (8 + 12 * i) (flat_map entry_of (take i rows)) (entry_of r) l (omega (arith, length_entries (take i rows)))
    ∙ ap (over d 8)
    (flat_map_more entry_of [] (take i rows) r ∙ ap (flat_map entry_of) (ap (λ x. take i rows ++ x ∷ []) e ∙ sym (take_more rows i blank_row h)))

-- the two check sums behind the first 508 bytes
pub sealed_is : (b : List ℕ) → length b ≡ 512 → over (over b 508 (le 2 (first_check b))) 510 (le 2 (second_check b)) ≡ sealed (take 508 b)
sealed_is b l =
    over_over b 508 510 (le 2 (first_check b)) (le 2 (second_check b)) (omega arith) refl
    ∙ over_end b 508 (le 2 (first_check b) ++ le 2 (second_check b)) (omega arith)
    ∙ ap₂ (λ x y. take 508 b ++ (le 2 x ++ le 2 y)) (first_take b (omega arith)) (second_take b (omega arith))

-- a block of zeros with the fields put in and sealed
pub built : (b p : List ℕ) → b ≡ filled 512 p → length p ≤ 508 → sealed (take 508 b) ≡ block_from p
built b p e l = ap sealed (ap (take 508) e ∙ take_filled 508 512 p l (omega arith))

pub length_block : (p : List ℕ) → length p ≤ 508 → length (block_from p) ≡ 512
length_block p l =
    length-append (filled 508 p) (le 2 (first_check (filled 508 p)) ++ le 2 (second_check (filled 508 p)))
    ∙ ap (λ n. n + 4) (length_filled 508 p l)
