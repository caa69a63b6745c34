-- How many stations are not settled yet. Assumes nothing.
use Rattle.std.proofs.Common.{◌≡◌, ℕ, zero, suc, ◌<◌, ◌≤◌, Bool, true, false, cond, List, [], ◌∷◌, length, set, refl, ap, ap₂, arith}
use Rattle.model.specs.Slots.{is_settled}
use Rattle.model.specs.declared.slot.Slot.{Slot}
use Rattle.model.specs.declared.slot.Slot.TheVariants.{Free, Settled, Waits}
use Rattle.theory.specs.Sides.{done_at}

abbrev pub undone : {W : Type 0} → List (Slot W) → ℕ
undone [] = 0
undone (x ∷ xs) = cond (is_settled x) (undone xs) (suc (undone xs))

module _ {W : Type 0} where
  -- it depends only on which are settled
  pub undone_same : (xs ys : List (Slot W)) → length xs ≡ length ys → ((z : ℕ) → done_at xs z ≡ done_at ys z) → undone xs ≡ undone ys
  undone_same [] [] e same = refl
  undone_same [] (y ∷ ys) e same = absurd (omega arith)
  undone_same (x ∷ xs) [] e same = absurd (omega arith)
  undone_same (x ∷ xs) (y ∷ ys) e same =
      ap₂ (λ b n. cond b n (suc n)) (same 0) (undone_same xs ys (omega arith) (λ z. same (suc z)))

  -- one less when one is settled
  pub undone_set : (xs : List (Slot W)) (v : ℕ) (k : W) → v < length xs → done_at xs v ≡ false → undone xs ≡ suc (undone (set xs v (Settled k)))
  undone_set [] v k within e = absurd (omega arith)
  undone_set (x ∷ xs) zero k within e = ap (λ b. cond b (undone xs) (suc (undone xs))) e
  undone_set (x ∷ xs) (suc v) k within e = one_more (is_settled x) (undone_set xs v k (omega arith) e)
    where
      one_more : (b : Bool) {i j : ℕ} → i ≡ suc j → cond b i (suc i) ≡ suc (cond b j (suc j))
      one_more true h = h
      one_more false h = ap suc h

  -- where none is left, all are settled
  pub undone_none : (xs : List (Slot W)) → undone xs ≡ 0 → (z : ℕ) → z < length xs → done_at xs z ≡ true
  undone_none [] e z within = absurd (omega arith)
  undone_none (Free ∷ xs) e z within = absurd (omega arith)
  undone_none (Waits w ∷ xs) e z within = absurd (omega arith)
  undone_none (Settled w ∷ xs) e zero within = refl
  undone_none (Settled w ∷ xs) e (suc z) within = undone_none xs e z (omega arith)

  -- and never more than there are
  pub undone_most : (xs : List (Slot W)) → undone xs ≤ length xs
  undone_most [] = omega arith
  undone_most (Free ∷ xs) = let h = undone_most xs in omega arith
  undone_most (Waits w ∷ xs) = let h = undone_most xs in omega arith
  undone_most (Settled w ∷ xs) = let h = undone_most xs in omega arith
