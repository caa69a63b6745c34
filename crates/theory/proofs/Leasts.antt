-- The best waiting station. Assumes nothing.
use Rattle.std.proofs.Common.{◌≡◌, ℕ, zero, suc, ◌+◌, ◌<◌, Bool, true, ◌⊎◌, List, [], ◌∷◌, length, get_or, Some, None, Option, refl, ◌∙◌, subst, ⊎_elim, arith}
use Rattle.std.proofs.lemmas.Bool.{both_ways, cond_both}
use Rattle.model.specs.Slots.{first_of, least_from}
use Rattle.model.specs.declared.slot.Slot.{Slot}
use Rattle.model.specs.declared.slot.Slot.TheVariants.{Free, Settled, Waits}

-- a total order as a test
pub record Ranks {W : Type 0} (leb : W → W → Bool) : Type 0 where
  pub total : (a b : W) → (leb a b ≡ true) ⊎ (leb b a ≡ true)
  pub trans : (a b c : W) → leb a b ≡ true → leb b c ≡ true → leb a c ≡ true

idle_waits : {W : Type 0} (w : W) → Free ≡ Waits w → ⊥
idle_waits w e = let z : ◌≡◌ {A = ℕ} 0 1 = cc in absurd (omega arith)

settled_waits : {W : Type 0} (v w : W) → Settled v ≡ Waits w → ⊥
settled_waits v w e = let z : ◌≡◌ {A = ℕ} 0 1 = cc in absurd (omega arith)

waits_same : {W : Type 0} (v w : W) → Waits v ≡ Waits w → v ≡ w
waits_same v w e = cc

-- a place below s waits with k, and no other waits with a better key
pub record First {W : Type 0} (leb : W → W → Bool) (s : ℕ) (xs : List (Slot W)) (v : ℕ) (k : W) : Type 0 where
  pub place : ℕ
  pub is_there : v ≡ s + place
  pub within : place < length xs
  pub waiting : get_or xs place Free ≡ Waits k
  pub least : (z : ℕ) (w : W) → get_or xs z Free ≡ Waits w → leb k w ≡ true

-- what the search for the best waiting station says
abbrev pub Found : {W : Type 0} → (W → W → Bool) → ℕ → List (Slot W) → Option (ℕ × W) → Type 0
Found {W} leb s xs None = (z : ℕ) (w : W) → get_or xs z Free ≡ Waits w → ⊥
Found leb s xs (Some p) = First leb s xs p.0 p.1

module _ {W : Type 0} (leb : W → W → Bool) (ranks : Ranks leb) where
  -- nothing waits at the front
  passed : (s : ℕ) (x : Slot W) (xs : List (Slot W)) → ((w : W) → x ≡ Waits w → ⊥) → (r : Option (ℕ × W)) → Found leb (suc s) xs r → Found leb s (x ∷ xs) r
  passed s x xs none None f = front
    where
      front : (z : ℕ) (w : W) → get_or (x ∷ xs) z Free ≡ Waits w → ⊥
      front zero w e = none w e
      front (suc z) w e = f z w e
  passed s x xs none (Some p) f =
      record { place = suc f.place; is_there = f.is_there ∙ omega arith; within = let h = f.within in omega arith; waiting = f.waiting; least = front }
    where
      front : (z : ℕ) (w : W) → get_or (x ∷ xs) z Free ≡ Waits w → leb p.1 w ≡ true
      front zero w e = absurd (none w e)
      front (suc z) w e = f.least z w e

  -- a station waits at the front
  at_front : (s : ℕ) (k : W) (xs : List (Slot W)) → ((z : ℕ) (w : W) → get_or xs z Free ≡ Waits w → leb k w ≡ true) → First leb s (Waits k ∷ xs) s k
  at_front s k xs less = record { place = 0; is_there = omega arith; within = omega arith; waiting = refl; least = front }
    where
      front : (z : ℕ) (w : W) → get_or (Waits k ∷ xs) z Free ≡ Waits w → leb k w ≡ true
      front zero w e = subst (λ x. leb k x ≡ true) (waits_same k w e) (⊎_elim (λ h. h) (λ h. h) (ranks.total k k))
      front (suc z) w e = less z w e

  behind_front : (s : ℕ) (k : W) (xs : List (Slot W)) (p : ℕ × W) → leb p.1 k ≡ true → First leb (suc s) xs p.0 p.1 → First leb s (Waits k ∷ xs) p.0 p.1
  behind_front s k xs p better f =
      record { place = suc f.place; is_there = f.is_there ∙ omega arith; within = let h = f.within in omega arith; waiting = f.waiting; least = front }
    where
      front : (z : ℕ) (w : W) → get_or (Waits k ∷ xs) z Free ≡ Waits w → leb p.1 w ≡ true
      front zero w e = subst (λ x. leb p.1 x ≡ true) (waits_same k w e) better
      front (suc z) w e = f.least z w e

  compared : (s : ℕ) (k : W) (xs : List (Slot W)) (r : Option (ℕ × W)) → Found leb (suc s) xs r → Found leb s (Waits k ∷ xs) (first_of leb (s, k) r)
  compared s k xs None f = at_front s k xs (λ z w e. absurd (f z w e))
  compared s k xs (Some p) f =
      cond_both (leb k p.1) (Some (s, k)) (Some p) (Found leb s (Waits k ∷ xs))
      (λ e. at_front s k xs (λ z w h. ranks.trans k p.1 w e (f.least z w h)))
      (λ e. behind_front s k xs p (⊎_elim (λ h. absurd (both_ways (leb k p.1) e h)) (λ h. h) (ranks.total k p.1)) f)

  pub found : (s : ℕ) (xs : List (Slot W)) → Found leb s xs (least_from leb s xs)
  unfolding least_from
  found s [] = λ z w e. idle_waits w e
  found s (Free ∷ xs) = passed s Free xs (λ w e. idle_waits w e) (least_from leb (suc s) xs) (found (suc s) xs)
  found s (Waits k ∷ xs) = compared s k xs (least_from leb (suc s) xs) (found (suc s) xs)
  found s (Settled k ∷ xs) = passed s (Settled k) xs (λ w e. settled_waits k w e) (least_from leb (suc s) xs) (found (suc s) xs)
