-- Parts of lists.
use Rattle.std.proofs.Common.{◌≡◌, ℕ, zero, suc, ◌+◌, ◌-◌, ◌*◌, ◌<◌, ◌≤◌, min, List, ◌∷◌, ◌++◌, length, get_or, take, drop, replicate, sym, refl, ap, ◌∙◌, ⊎_elim, arith, length-drop, take-append-drop}
use native.Mathlib.Nat.{mul-suc}
use Rattle.std.proofs.lemmas.List.{length-replicate, take_all, drop_all, drop-drop, length-take-le, ext_get_or, get_or-replicate, drop_more}
use Rattle.std.specs.Simd.{first_chunks}
use Rattle.std.proofs.lemmas.Bool.{cases_lt}

-- the part from a on of k elements, as a range from a to a + k is read
pub part_is : {X : Type 0} (k a : ℕ) (xs : List X) → take ((a + k) - a) (drop a xs) ≡ take k (drop a xs)
part_is k a xs = let e : (a + k) - a ≡ k = omega arith in ap (λ n. take n (drop a xs)) e

pub length_part : {X : Type 0} (k a : ℕ) (xs : List X) → a + k ≤ length xs → length (take k (drop a xs)) ≡ k
length_part k a xs h = length-take-le k (drop a xs) (rw length-drop (omega arith))

-- a piece that stops at the end of the list
pub take_short : {X : Type 0} (k : ℕ) (xs : List X) → take (min (length xs) k) xs ≡ take k xs
take_short k xs =
    ⊎_elim
    (λ (h : length xs < k). take_all (min (length xs) k) xs (omega arith) ∙ sym (take_all k xs (omega arith)))
    (λ (h : k ≤ length xs). let e : min (length xs) k ≡ k = omega arith in ap (λ n. take n xs) e)
    (cases_lt (length xs) k)

pub drop_short : {X : Type 0} (k : ℕ) (xs : List X) → drop (min (length xs) k) xs ≡ drop k xs
drop_short k xs =
    ⊎_elim
    (λ (h : length xs < k). drop_all (min (length xs) k) xs (omega arith) ∙ sym (drop_all k xs (omega arith)))
    (λ (h : k ≤ length xs). let e : min (length xs) k ≡ k = omega arith in ap (λ n. drop n xs) e)
    (cases_lt (length xs) k)

-- where every element is zero the list is blank
pub zeros_are : (xs : List ℕ) (n : ℕ) → length xs ≡ n → ((i : ℕ) → i < n → get_or xs i 0 ≡ 0) → xs ≡ replicate n 0
zeros_are xs n l h =
    ext_get_or 0 xs (replicate n 0) (l ∙ sym (length-replicate n 0))
    (λ i k. h i (omega arith) ∙ sym (get_or-replicate n i 0 0 (omega arith)))

-- a list around one of its elements
pub around : {X : Type 0} (xs : List X) (i : ℕ) (d : X) → i < length xs → xs ≡ take i xs ++ get_or xs i d ∷ drop (i + 1) xs
around xs i d h = sym (take-append-drop i xs) ∙ ap (λ z. take i xs ++ z) (drop_more xs i d h)

pub length-first_chunks : {X : Type 0} (n k : ℕ) (xs : List X) → length (first_chunks n k xs) ≡ k
length-first_chunks n zero xs = refl
length-first_chunks n (suc k) xs = ap suc (length-first_chunks n k (drop n xs))

-- one of the chunks of n elements that a list is cut into
pub get_or-first_chunks : {X : Type 0} (n k : ℕ) (xs : List X) (i : ℕ) (d : List X) → i < k → get_or (first_chunks n k xs) i d ≡ take n (drop (n * i) xs)
get_or-first_chunks n zero xs i d h = absurd (omega arith)
get_or-first_chunks n (suc k) xs zero d h = let e : n * 0 ≡ 0 = omega arith in ap (λ m. take n (drop m xs)) (sym e)
get_or-first_chunks n (suc k) xs (suc i) d h =
    let e : n + n * i ≡ n * suc i = rw mul-suc (omega arith) in
    get_or-first_chunks n k (drop n xs) i d (omega arith) ∙ ap (take n) (drop-drop (n * i) n xs ∙ ap (λ m. drop m xs) e)
