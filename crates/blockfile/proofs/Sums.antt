-- The check sums of a block.
use Rattle.std.proofs.Common.{◌≡◌, ℕ, zero, suc, ◌+◌, ◌-◌, ◌*◌, ◌%◌, ◌<◌, ◌≤◌, List, ◌++◌, length, get_or, take, drop, w16, sym, refl, ap, ◌∙◌, ap₂, add-one, arith, take-append-drop}
use native.Mathlib.Nat.{suc-mul, mul-add}
use Rattle.std.specs.Int.{from_le_bytes}
use Rattle.std.specs.Simd.{first_chunks}
use Rattle.std.proofs.lemmas.List.{length-take-le}
use Rattle.lists.specs.Bytes.{value}
use Rattle.lists.proofs.Cuts.{length_part, get_or-first_chunks}
use Rattle.lists.proofs.Digits.{number_two, value_front}
use Rattle.blockfile.specs.Blocks.{word, plain_sum, weighted_sum, first_check, second_check}

pub plain_more : (b : List ℕ) (j : ℕ) → plain_sum b (j + 1) ≡ plain_sum b j + word b j
unfolding plain_sum
plain_more b j = ap (plain_sum b) (add-one j)

pub weighted_more : (b : List ℕ) (j : ℕ) → weighted_sum b (j + 1) ≡ weighted_sum b j + (254 - j) * word b j
unfolding weighted_sum
weighted_more b j = ap (weighted_sum b) (add-one j)

-- one more word, where the sums that the first sum goes through are added up
pub weighted_step : (b : List ℕ) (j plain weighted w : ℕ) → j < 254 → w ≡ word b j → weighted_sum b j ≡ weighted + (254 - j) * plain → weighted_sum b (j + 1) ≡ (weighted + (plain + w)) + (254 - (j + 1)) * (plain + w)
weighted_step b j plain weighted w h e i =
    let m = 254 - (j + 1) in
    let left : 254 - j ≡ suc m = omega arith in
    let before : weighted_sum b j ≡ weighted + (m * plain + plain) = i ∙ ap (λ k. weighted + k * plain) left ∙ ap (λ k. weighted + k) (suc-mul m plain) in
    let more : (254 - j) * word b j ≡ m * w + w = ap₂ (λ k x. k * x) left (sym e) ∙ suc-mul m w in
    let split : m * (plain + w) ≡ m * plain + m * w = mul-add m plain w in
    weighted_more b j ∙ omega arith

-- the word at a place, as the code reads it
pub word_is : (b : List ℕ) (words : List (List ℕ)) (k j : ℕ) (d : List ℕ) → length b ≡ 512 → k ≡ 254 → j < 254 → words ≡ first_chunks 2 k (take 508 b) → from_le_bytes w16 (get_or words j d) ≡ word b j
word_is b words k j d l n h e =
    let part = take 508 b in
    let long = length-take-le 508 b (omega arith) in
    let cut : get_or words j d ≡ take 2 (drop (2 * j) part) = ap (λ ws. get_or ws j d) e ∙ get_or-first_chunks 2 k part j d (omega arith) in
    ap (from_le_bytes w16) cut
    ∙ number_two (take 2 (drop (2 * j) part)) (length_part 2 (2 * j) part (omega arith))
    ∙ sym (value_front 2 part (drop 508 b) (2 * j) (omega arith))
    ∙ ap (λ x. value 2 x (2 * j)) (take-append-drop 508 b)

-- words within b do not depend on what stands behind it
pub plain_front : (b t : List ℕ) (j : ℕ) → 2 * j ≤ length b → plain_sum (b ++ t) j ≡ plain_sum b j
unfolding plain_sum
plain_front b t zero l = refl
plain_front b t (suc j) l = ap₂ (λ x y. x + y) (plain_front b t j (omega arith)) (value_front 2 b t (2 * j) (omega arith))

pub weighted_front : (b t : List ℕ) (j : ℕ) → 2 * j ≤ length b → weighted_sum (b ++ t) j ≡ weighted_sum b j
unfolding weighted_sum
weighted_front b t zero l = refl
weighted_front b t (suc j) l =
    ap₂ (λ x y. x + (254 - j) * y) (weighted_front b t j (omega arith)) (value_front 2 b t (2 * j) (omega arith))

-- the check sums depend on the first 508 bytes alone
pub first_front : (b t : List ℕ) → 508 ≤ length b → first_check (b ++ t) ≡ first_check b
first_front b t l = ap (λ n. n % 65535) (plain_front b t 254 l)

pub second_front : (b t : List ℕ) → 508 ≤ length b → second_check (b ++ t) ≡ second_check b
second_front b t l = ap (λ n. n % 65535) (weighted_front b t 254 l)

pub first_take : (b : List ℕ) → 508 ≤ length b → first_check b ≡ first_check (take 508 b)
first_take b l =
    ap first_check (sym (take-append-drop 508 b))
    ∙ first_front (take 508 b) (drop 508 b) (omega (arith, length-take-le 508 b l))

pub second_take : (b : List ℕ) → 508 ≤ length b → second_check b ≡ second_check (take 508 b)
second_take b l =
    ap second_check (sym (take-append-drop 508 b))
    ∙ second_front (take 508 b) (drop 508 b) (omega (arith, length-take-le 508 b l))
