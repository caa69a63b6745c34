-- What copying a part of a list by one place and writing over one record leave. Assumes nothing.
use Rattle.std.proofs.Common.{◌≡◌, ℕ, ◌+◌, ◌-◌, ◌<◌, ◌≤◌, List, [], ◌∷◌, ◌++◌, length, get_or, take, drop, set, sym, ap, ◌∙◌, ap₂, add-one, arith}
use lib.Seq.{paste}
use Rattle.std.proofs.lemmas.List.Edits.{length-between}
use Rattle.std.proofs.lemmas.List.{append-nil, append_assoc, drop_all, drop_more, length-append, length-take-le, set_at, take_all, take_more, take-take}
use Rattle.std.proofs.lemmas.Slice.{between_is}
use Rattle.std.specs.List.{insert, remove}

-- the gap at a place among the first n is written over
gap_made_among : {X : Type 0} (xs : List X) (n i : ℕ) (y : X) → i ≤ n → n < length xs → set (paste xs (i + 1) (drop i xs) (n - i)) i y ≡ insert (take n xs) i y ++ drop (n + 1) xs
gap_made_among xs n i y used room =
    let front = take i xs in
    let mid = take (n - i) (drop i xs) in
    let rest = drop (i + 1 + (n - i)) xs in
    let here = get_or xs i y in
    let end : i + 1 + (n - i) ≡ n + 1 = omega arith in
    ap (λ zs. set (zs ++ mid ++ rest) i y) (take_more xs i y (omega arith))
    ∙ ap (λ zs. set zs i y) (append_assoc (front ++ here ∷ []) mid rest ∙ append_assoc front (here ∷ []) (mid ++ rest))
    ∙ set_at front here (mid ++ rest) y i (length-take-le i xs (omega arith))
    ∙ ap₂ (λ before behind. before ++ y ∷ behind) (sym (take-take i n xs used)) (ap₂ (λ zs k. zs ++ drop k xs) (between_is xs i n) end)
    ∙ sym (append_assoc (take i (take n xs)) (y ∷ drop i (take n xs)) (drop (n + 1) xs))

-- the last of the first n is written over
gap_closed_among : {X : Type 0} (xs : List X) (n i : ℕ) (y : X) → i < n → n ≤ length xs → set (paste xs i (drop (i + 1) xs) (n - (i + 1))) (n - 1) y ≡ remove (take n xs) i ++ y ∷ drop n xs
gap_closed_among xs n i y used within =
    let front = take i xs ++ take (n - (i + 1)) (drop (i + 1) xs) in
    let last : i + (n - (i + 1)) ≡ n - 1 = omega arith in
    let long : length front ≡ n - 1 = simp length-append (omega (arith, length-take-le i xs (omega arith), length-between xs (i + 1) n within)) in
    let end : n - 1 + 1 ≡ n = omega arith in
    ap (λ zs. set (front ++ zs) (n - 1) y) (ap (λ k. drop k xs) last ∙ drop_more xs (n - 1) y (omega arith))
    ∙ set_at front (get_or xs (n - 1) y) (drop (n - 1 + 1) xs) y (n - 1) long
    ∙ ap (λ k. front ++ y ∷ drop k xs) end
    ∙ ap₂ (λ before behind. before ++ behind ++ y ∷ drop n xs) (sym (take-take i n xs (omega arith))) (between_is xs (i + 1) n ∙ ap (λ k. drop k (take n xs)) (add-one i))

-- the gap at a place is written over, and the last record is gone
pub gap_made : {X : Type 0} (xs : List X) (i : ℕ) (y : X) → i < length xs → set (paste xs (i + 1) (drop i xs) (length xs - 1 - i)) i y ≡ insert (take (length xs - 1) xs) i y
gap_made xs i y used =
    gap_made_among xs (length xs - 1) i y (omega arith) (omega arith)
    ∙ ap (λ zs. insert (take (length xs - 1) xs) i y ++ zs) (drop_all (length xs - 1 + 1) xs (omega arith))
    ∙ append-nil (insert (take (length xs - 1) xs) i y)

-- the gap at a place is closed, and the last record written over
pub gap_closed : {X : Type 0} (xs : List X) (i : ℕ) (y : X) → i < length xs → set (paste xs i (drop (i + 1) xs) (length xs - (i + 1))) (length xs - 1) y ≡ remove xs i ++ y ∷ []
gap_closed xs i y used =
    gap_closed_among xs (length xs) i y used (omega arith)
    ∙ ap₂ (λ zs ys. remove zs i ++ y ∷ ys) (take_all (length xs) xs (omega arith)) (drop_all (length xs) xs (omega arith))

-- the first n of one record more
pub all_but_last : {X : Type 0} (xs : List X) (n : ℕ) → n < length xs → take (length (take (n + 1) xs) - 1) (take (n + 1) xs) ≡ take n xs
all_but_last xs n room =
    let long : length (take (n + 1) xs) - 1 ≡ n = omega (arith, length-take-le (n + 1) xs (omega arith)) in
    ap (λ k. take k (take (n + 1) xs)) long ∙ take-take n (n + 1) xs (omega arith)
