-- Writes over a part of a list.
use Rattle.std.proofs.Common.{◌≡◌, ℕ, ◌+◌, ◌-◌, ◌≤◌, List, ◌++◌, length, take, drop, replicate, sym, ap, ◌∙◌, ap₂, append_assoc, arith, length-append}
use borrow.Rule.Slice.PartMut.{put_mid}
use Rattle.std.proofs.lemmas.List.{length-replicate, take_at, drop_at, drop-drop, length-take-le, drop-replicate, replicate-append-replicate, drop_all, append-nil}
use Rattle.lists.specs.Writes.{over, filled}

-- what a write to the part of k elements from a on leaves
pub put_mid_over : {X : Type 0} (a k : ℕ) (d s : List X) → k ≡ length s → put_mid a k d s ≡ over d a s
put_mid_over a k d s e = ap (λ x. take a d ++ (s ++ x)) (drop-drop k a d ∙ ap (λ n. drop (a + n) d) e)

pub length_filled : (n : ℕ) (p : List ℕ) → length p ≤ n → length (filled n p) ≡ n
length_filled n p h = simp (length-append, length-replicate) (omega arith)

-- what is put right behind p extends it
pub filled_over : (n a : ℕ) (p s : List ℕ) → length p ≡ a → over (filled n p) a s ≡ filled n (p ++ s)
filled_over n a p s e =
    let head : take a (filled n p) ≡ p = take_at p (replicate (n - length p) 0) a e in
    let tail : drop (a + length s) (filled n p) ≡ replicate (n - length (p ++ s)) 0 =
    sym (drop-drop (length s) a (filled n p))
    ∙ ap (drop (length s)) (drop_at p (replicate (n - length p) 0) a e)
    ∙ drop-replicate (length s) (n - length p) 0
    ∙ ap (λ k. replicate k 0) (rw length-append (omega arith))
    in
    ap₂ (λ x y. x ++ (s ++ y)) head tail ∙ sym (append_assoc p s (replicate (n - length (p ++ s)) 0))

-- the front of a filled list is filled
pub take_filled : (m n : ℕ) (p : List ℕ) → length p ≤ m → m ≤ n → take m (filled n p) ≡ filled m p
take_filled m n p h g =
    let split : replicate (n - length p) 0 ≡ replicate (m - length p) 0 ++ replicate (n - m) 0 =
    ap (λ k. replicate k 0) (omega arith) ∙ sym (replicate-append-replicate (m - length p) (n - m) 0)
    in
    let whole : filled n p ≡ filled m p ++ replicate (n - m) 0 =
    ap (λ z. p ++ z) split ∙ sym (append_assoc p (replicate (m - length p) 0) (replicate (n - m) 0))
    in
    ap (take m) whole ∙ take_at (filled m p) (replicate (n - m) 0) m (length_filled m p h)

-- two writes, one right behind the other, are one
pub over_over : {X : Type 0} (d : List X) (a b : ℕ) (s t : List X) → a ≤ length d → b ≡ a + length s → over (over d a s) b t ≡ over d a (s ++ t)
over_over d a b s t l e =
    let front : length (take a d ++ s) ≡ b = length-append (take a d) s ∙ ap (λ n. n + length s) (length-take-le a d l) ∙ sym e in
    let whole : over d a s ≡ (take a d ++ s) ++ drop (a + length s) d = sym (append_assoc (take a d) s (drop (a + length s) d)) in
    let head : take b (over d a s) ≡ take a d ++ s = ap (take b) whole ∙ take_at (take a d ++ s) (drop (a + length s) d) b front in
    let tail : drop (b + length t) (over d a s) ≡ drop (a + length (s ++ t)) d =
    sym (drop-drop (length t) b (over d a s))
    ∙ ap (drop (length t)) (ap (drop b) whole ∙ drop_at (take a d ++ s) (drop (a + length s) d) b front)
    ∙ drop-drop (length t) (a + length s) d
    ∙ ap (λ n. drop n d) (rw length-append (omega arith))
    in
    ap₂ (λ x y. x ++ (t ++ y)) head tail
    ∙ append_assoc (take a d) s (t ++ drop (a + length (s ++ t)) d)
    ∙ ap (λ z. take a d ++ z) (sym (append_assoc s t (drop (a + length (s ++ t)) d)))

-- what is written to the end leaves nothing of the old end
pub over_end : {X : Type 0} (d : List X) (a : ℕ) (s : List X) → length d ≤ a + length s → over d a s ≡ take a d ++ s
over_end d a s l = ap (λ z. take a d ++ z) (ap (λ z. s ++ z) (drop_all (a + length s) d l) ∙ append-nil s)
