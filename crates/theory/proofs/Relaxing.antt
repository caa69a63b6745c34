-- Keys that are offered to stations. Assumes nothing.
use Rattle.std.proofs.Common.{◌≡◌, ℕ, ◌<◌, true, false, ◌≢◌, ◌⊎◌, List, [], ◌∷◌, length, set, sym, refl, ap, ◌∙◌, subst, inl, inr, ⊎_elim, length-set, get_or-set_other, get_or-set_same}
use Rattle.std.proofs.lemmas.Bool.{both_ways, cases_eq, cond_both, not-false, not-true}
use Rattle.measure.specs.Meaning.{Meaning}
use Rattle.model.specs.Queries.{improves, offered, relaxed}
use Rattle.model.specs.Slots.{is_settled}
use Rattle.model.specs.declared.slot.Slot.{Slot}
use Rattle.model.specs.declared.slot.Slot.TheVariants.{Free, Settled, Waits}
use Rattle.model.specs.declared.records.Leg.{Leg}
use Rattle.theory.specs.Laws.{NoWorse, TravelLaws}
use Rattle.theory.specs.Sides.{Mem, done_at, key_at, keyed, slot_at}
use Rattle.theory.proofs.Weighing.{no_worse_of, no_worse_refl}

module _ {W : Type 0} (m : Meaning W) (laws : TravelLaws m) where
  -- what is not no worse is better
  pub otherwise : (a b : W) → m.leb a b ≡ false → NoWorse m b a
  otherwise a b e = ⊎_elim (λ h. absurd (both_ways (m.leb a b) e h)) (λ h. h) (laws.total a b)

  improves_means : (k : W) (x : Slot W) → improves m k x ≡ true → (is_settled x ≡ false) × NoWorse m k (keyed m x)
  improves_means k Free e = (refl, laws.no_way_worst k)
  improves_means k (Waits w) e = (refl, otherwise w k (not-true (m.leb w k) e))
  improves_means k (Settled w) e = absurd (both_ways false refl e)

  improves_not : (k : W) (x : Slot W) → improves m k x ≡ false → (is_settled x ≡ true → NoWorse m (keyed m x) k) → NoWorse m (keyed m x) k
  improves_not k Free e h = not-false (m.leb m.no_way k) e
  improves_not k (Waits w) e h = not-false (m.leb w k) e
  improves_not k (Settled w) e h = h refl

-- what an offer of the key k to station u does
pub record Offering {W : Type 0} (m : Meaning W) (u : ℕ) (k : W) (xs ys : List (Slot W)) : Type 0 where
  pub long : length ys ≡ length xs
  pub improved : (z : ℕ) → NoWorse m (key_at m ys z) (key_at m xs z)
  pub same_done : (z : ℕ) → done_at ys z ≡ done_at xs z
  pub changed : (z : ℕ) → (slot_at ys z ≡ slot_at xs z) ⊎ ((z ≡ u) × (slot_at ys z ≡ Waits k))
  pub reached : (done_at xs u ≡ true → NoWorse m (key_at m xs u) k) → NoWorse m (key_at m ys u) k

-- what a settled station's key, offered over its legs, does
pub record Relaxing {W : Type 0} (m : Meaning W) (k : W) (legs : List (Leg W)) (xs ys : List (Slot W)) : Type 0 where
  pub long : length ys ≡ length xs
  pub improved : (z : ℕ) → NoWorse m (key_at m ys z) (key_at m xs z)
  pub same_done : (z : ℕ) → done_at ys z ≡ done_at xs z
  pub changed : (z : ℕ) → (slot_at ys z ≡ slot_at xs z) ⊎ ((leg : Leg W) × Mem leg legs × (z ≡ leg.to) × (slot_at ys z ≡ Waits (m.join k leg.weight)))
  pub reached : (leg : Leg W) → Mem leg legs → (done_at xs leg.to ≡ true → NoWorse m (key_at m xs leg.to) (m.join k leg.weight)) → NoWorse m (key_at m ys leg.to) (m.join k leg.weight)

module _ {W : Type 0} (m : Meaning W) (laws : TravelLaws m) where
  pub offering : (u : ℕ) (k : W) (xs : List (Slot W)) → u < length xs → Offering m u k xs (offered m u k xs)
  offering u k xs within = cond_both (improves m k (slot_at xs u)) (set xs u (Waits k)) xs (Offering m u k xs) taken left
    where
      there : slot_at (set xs u (Waits k)) u ≡ Waits k
      there = get_or-set_same xs u (Waits k) Free within

      elsewhere : (z : ℕ) → z ≢ u → slot_at (set xs u (Waits k)) z ≡ slot_at xs z
      elsewhere z other = get_or-set_other xs u z (Waits k) Free other

      taken : improves m k (slot_at xs u) ≡ true → Offering m u k xs (set xs u (Waits k))
      taken e =
          let (unsettled, less) = improves_means m laws k (slot_at xs u) e in
          record {
            long = length-set xs u (Waits k);
            improved = λ z. ⊎_elim
                (λ same. subst (λ x. NoWorse m (key_at m (set xs u (Waits k)) x) (key_at m xs x)) (sym same) (subst (λ x. NoWorse m (keyed m x) (key_at m xs u)) (sym there) less))
                (λ other. no_worse_of m laws _ _ (ap (keyed m) (elsewhere z other))) (cases_eq z u);
            same_done = λ z. ⊎_elim
                (λ same. subst (λ x. done_at (set xs u (Waits k)) x ≡ done_at xs x) (sym same) (ap is_settled there ∙ sym unsettled))
                (λ other. ap is_settled (elsewhere z other)) (cases_eq z u);
            changed = λ z. ⊎_elim (λ same. inr (same, ap (slot_at (set xs u (Waits k))) same ∙ there)) (λ other. inl (elsewhere z other)) (cases_eq z u);
            reached = λ _. no_worse_of m laws _ _ (ap (keyed m) there);
          }

      left : improves m k (slot_at xs u) ≡ false → Offering m u k xs xs
      left e =
          record {
            long = refl;
            improved = λ z. no_worse_refl m laws _;
            same_done = λ z. refl;
            changed = λ z. inl refl;
            reached = λ h. improves_not m laws k (slot_at xs u) e h;
          }

  pub relaxing : (k : W) (legs : List (Leg W)) (xs : List (Slot W)) → ((leg : Leg W) → Mem leg legs → leg.to < length xs) → Relaxing m k legs xs (relaxed m k legs xs)
  relaxing k [] xs within =
      record { long = refl; improved = λ z. no_worse_refl m laws _; same_done = λ z. refl; changed = λ z. inl refl; reached = λ leg h _. absurd h }
  relaxing k (leg ∷ legs) xs within =
      let here = offering leg.to (m.join k leg.weight) xs (within leg (inl refl)) in
      let rest = relaxing k legs (offered m leg.to (m.join k leg.weight) xs) (λ l h. subst (λ n. l.to < n) (sym here.long) (within l (inr h))) in
      record {
        long = rest.long ∙ here.long;
        improved = λ z. laws.trans _ _ _ (rest.improved z) (here.improved z);
        same_done = λ z. rest.same_done z ∙ here.same_done z;
        changed = λ z. ⊎_elim
            (λ same. ⊎_elim (λ old. inl (same ∙ old)) (λ (at, is). inr (leg, inl refl, at, same ∙ is)) (here.changed z))
            (λ (l, h, at, is). inr (l, inr h, at, is))
            (rest.changed z);
        reached = λ l h ordered. ⊎_elim
            (λ same. subst (λ x. NoWorse m (key_at m (relaxed m k (leg ∷ legs) xs) x.to) (m.join k x.weight)) (sym same)
            (laws.trans _ _ _ (rest.improved leg.to) (here.reached (subst (λ x. done_at xs x.to ≡ true → NoWorse m (key_at m xs x.to) (m.join k x.weight)) same ordered))))
            (λ later. rest.reached l later (λ done. laws.trans _ _ _ (here.improved l.to) (ordered (sym (here.same_done l.to) ∙ done))))
            h;
      }
