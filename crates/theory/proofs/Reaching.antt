-- What settling a station on one side does to the best so far. Assumes nothing.
use Rattle.std.proofs.Common.{◌≡◌, ℕ, ◌<◌, Bool, true, false, cond, List, [], ◌∷◌, length, set, Some, sym, refl, subst, inl, inr, ⊎_elim, length-set, get_or-set_other, get_or-set_same}
use Rattle.std.proofs.lemmas.Bool.{cases_eq, cond_both}
use Rattle.measure.specs.Meaning.{Meaning, better_of}
use Rattle.model.specs.Queries.{improves, met, reached, relaxed}
use Rattle.model.specs.Slots.{key_of}
use Rattle.model.specs.declared.slot.Slot.{Slot}
use Rattle.model.specs.declared.slot.Slot.TheVariants.{Free, Settled, Waits}
use Rattle.model.specs.declared.records.Leg.{Leg}
use Rattle.theory.specs.Laws.{NoWorse, TravelLaws}
use Rattle.theory.specs.Sides.{Mem, key_at, keyed, slot_at}
use Rattle.theory.proofs.Relaxing.{otherwise}
use Rattle.theory.proofs.Weighing.{no_worse_refl}

module _ {W : Type 0} (m : Meaning W) (laws : TravelLaws m) where
  -- the better of two is no worse than either, and is one of them
  pub better_left : (a b : W) → NoWorse m (better_of m a b) a
  better_left a b = cond_both (m.leb a b) a b (λ x. NoWorse m x a) (λ e. no_worse_refl m laws a) (λ e. otherwise m laws a b e)

  pub better_right : (a b : W) → NoWorse m (better_of m a b) b
  better_right a b = cond_both (m.leb a b) a b (λ x. NoWorse m x b) (λ e. e) (λ e. no_worse_refl m laws b)

  pub better_either : (Kind : W → Type 0) (a b : W) → Kind a → Kind b → Kind (better_of m a b)
  better_either Kind a b p q = cond_both (m.leb a b) a b Kind (λ _. p) (λ _. q)

-- the best so far after a step: no worse than before, and no worse than any station's two keys joined
pub record Met {W : Type 0} (m : Meaning W) (mine other : List (Slot W)) (before after : W) : Type 0 where
  pub improved : NoWorse m after before
  pub meets : (x : ℕ) → NoWorse m after (m.join (key_at m mine x) (key_at m other x))

-- the parts of a choice between two pairs
cond_first : {A B X : Type 0} (b : Bool) (p q : A × B) (F : X → A) (x y : X) → p.0 ≡ F x → q.0 ≡ F y → (cond b p q).0 ≡ F (cond b x y)
cond_first true p q F x y e f = e
cond_first false p q F x y e f = f

cond_second : {A B : Type 0} (b : Bool) (p q : A × B) (P : B → Type 0) → P p.1 → P q.1 → P (cond b p q).1
cond_second true p q P e f = e
cond_second false p q P e f = f

cond_both_parts : {A B X : Type 0} (b : Bool) (p q : A × B) (x y : X) (P : X → B → Type 0) → P x p.1 → P y q.1 → P (cond b x y) (cond b p q).1
cond_both_parts true p q x y P e f = e
cond_both_parts false p q x y P e f = f

module _ {W : Type 0} (m : Meaning W) (laws : TravelLaws m) where
  -- the slots are those that relaxing gives
  pub reached_slots : (k : W) (legs : List (Leg W)) (mine other : List (Slot W)) (best : W) → (reached m k legs mine other best).0 ≡ relaxed m k legs mine
  reached_slots k [] mine other best = refl
  reached_slots k (leg ∷ legs) mine other best =
      cond_first (improves m (m.join k leg.weight) (slot_at mine leg.to)) _ _ (relaxed m k legs) _ _ (reached_slots k legs _ other _) (reached_slots k legs mine other best)

  met_improved : (k : W) (o : Slot W) (best : W) → NoWorse m (met m k o best) best
  met_improved k Free best = no_worse_refl m laws best
  met_improved k (Waits r) best = better_left m laws best (m.join k r)
  met_improved k (Settled r) best = better_left m laws best (m.join k r)

  met_joined : (k : W) (o : Slot W) (best : W) → NoWorse m (met m k o best) (m.join k (keyed m o))
  met_joined k Free best = subst (NoWorse m best) (sym (laws.no_way_right k)) (laws.no_way_worst best)
  met_joined k (Waits r) best = better_right m laws best (m.join k r)
  met_joined k (Settled r) best = better_right m laws best (m.join k r)

  met_kind : (Kind : W → Type 0) (k : W) (o : Slot W) (best : W) → Kind best → ((j : W) → key_of o ≡ Some j → Kind (m.join k j)) → Kind (met m k o best)
  met_kind Kind k Free best old new = old
  met_kind Kind k (Waits r) best old new = better_either m laws Kind best (m.join k r) old (new r refl)
  met_kind Kind k (Settled r) best old new = better_either m laws Kind best (m.join k r) old (new r refl)

  -- the best so far keeps its promise
  pub reached_met : (k : W) (legs : List (Leg W)) (mine other : List (Slot W)) (best : W) → ((leg : Leg W) → Mem leg legs → leg.to < length mine) → ((x : ℕ) → NoWorse m best (m.join (key_at m mine x) (key_at m other x))) → Met m (relaxed m k legs mine) other best (reached m k legs mine other best).1
  reached_met k [] mine other best within meets = record { improved = no_worse_refl m laws best; meets = meets }
  reached_met k (leg ∷ legs) mine other best within meets =
      cond_both_parts (improves m offer (slot_at mine leg.to)) _ _ _ _ (λ xs after. Met m (relaxed m k legs xs) other best after)
      (further (reached_met k legs (set mine leg.to (Waits offer)) other (met m offer (slot_at other leg.to) best) (λ l h. subst (λ j. l.to < j) (sym (length-set mine leg.to (Waits offer))) (within l (inr h))) here))
      (reached_met k legs mine other best (λ l h. within l (inr h)) meets)
    where
      offer : W
      offer = m.join k leg.weight

      further : {xs : List (Slot W)} {after : W} → Met m xs other (met m (m.join k leg.weight) (slot_at other leg.to) best) after → Met m xs other best after
      further l = record { improved = laws.trans _ _ _ l.improved (met_improved (m.join k leg.weight) (slot_at other leg.to) best); meets = l.meets }

      here : (x : ℕ) → NoWorse m (met m (m.join k leg.weight) (slot_at other leg.to) best) (m.join (key_at m (set mine leg.to (Waits (m.join k leg.weight))) x) (key_at m other x))
      here x =
          ⊎_elim
          (λ same. subst (λ y. NoWorse m (met m (m.join k leg.weight) (slot_at other leg.to) best) (m.join (key_at m (set mine leg.to (Waits (m.join k leg.weight))) y) (key_at m other y))) (sym same)
          (subst (λ y. NoWorse m (met m (m.join k leg.weight) (slot_at other leg.to) best) (m.join (keyed m y) (key_at m other leg.to))) (sym (get_or-set_same mine leg.to (Waits (m.join k leg.weight)) Free (within leg (inl refl)))) (met_joined (m.join k leg.weight) (slot_at other leg.to) best)))
          (λ apart. laws.trans _ _ _ (met_improved (m.join k leg.weight) (slot_at other leg.to) best)
          (subst (λ y. NoWorse m best (m.join (keyed m y) (key_at m other x))) (sym (get_or-set_other mine leg.to x (Waits (m.join k leg.weight)) Free apart)) (meets x)))
          (cases_eq x leg.to)

  -- and its kind, where each offer joined to a key of the other side is of that kind
  pub reached_kind : (Kind : W → Type 0) (k : W) (legs : List (Leg W)) (mine other : List (Slot W)) (best : W) → Kind best → ((leg : Leg W) → Mem leg legs → (j : W) → key_of (slot_at other leg.to) ≡ Some j → Kind (m.join (m.join k leg.weight) j)) → Kind (reached m k legs mine other best).1
  reached_kind Kind k [] mine other best old new = old
  reached_kind Kind k (leg ∷ legs) mine other best old new =
      cond_second (improves m (m.join k leg.weight) (slot_at mine leg.to)) _ _ Kind
      (reached_kind Kind k legs _ other _ (met_kind Kind (m.join k leg.weight) (slot_at other leg.to) best old (λ j e. new leg (inl refl) j e)) (λ l h. new l (inr h)))
      (reached_kind Kind k legs mine other best old (λ l h. new l (inr h)))
