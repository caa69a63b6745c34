-- One side of a search keeps its promise while it settles stations. Assumes nothing.
use Rattle.std.proofs.Common.{◌≡◌, ℕ, ◌<◌, true, false, ◌≢◌, ◌⊎◌, List, length, set, Some, Option, sym, refl, ap, ◌∙◌, subst, inl, inr, ⊎_elim, arith, length-set, get_or-set_other, get_or-set_same}
use Rattle.std.proofs.lemmas.Bool.{both_ways, cases_eq}
use Rattle.measure.specs.Meaning.{Meaning}
use Rattle.model.specs.Networks.{Net, stop, step, cost}
use Rattle.model.specs.Queries.{relaxed}
use Rattle.model.specs.Slots.{is_settled, key_of}
use Rattle.model.specs.declared.slot.Slot.{Slot}
use Rattle.model.specs.declared.slot.Slot.TheVariants.{Free, Settled, Waits}
use Rattle.model.specs.declared.records.Leg.{Leg}
use Rattle.theory.specs.Laws.{NoWorse, TravelLaws}
use Rattle.theory.specs.Sides.{FromSeed, LegsOf, Side, done_at, key_at, keyed, slot_at}
use Rattle.theory.proofs.Covering.{append}
use Rattle.theory.proofs.Leasts.{First}
use Rattle.theory.proofs.Relaxing.{Relaxing, relaxing}
use Rattle.theory.proofs.Tabs.{some_same}
use Rattle.theory.proofs.Weighing.{grows_behind, no_worse_of}

module _ {W : Type 0} (m : Meaning W) (laws : TravelLaws m) (n : ℕ) (G : Net W) (seed : ℕ → Option W) where
  -- a key that goes on over a section
  pub further : (v u : ℕ) (k a : W) → FromSeed m G seed v k → G v u ≡ Some a → FromSeed m G seed u (m.join k a)
  further v u k a f e =
      let (walk, is) = append m laws f.walk (step v u a e stop) in
      record {
        start = f.start;
        weight = f.weight;
        is_seed = f.is_seed;
        walk = walk;
        whole =
            ap (λ x. m.join x a) f.whole ∙ laws.assoc f.weight (cost m f.walk) a
            ∙ ap (m.join f.weight) (ap (m.join (cost m f.walk)) (sym (laws.free_right a)) ∙ sym is);
      }

  module _ (xs : List (Slot W)) (side : Side m n G seed xs) (v : ℕ) (k : W) (first : First m.leb 0 xs v k) where
    at_place : v ≡ first.place
    at_place = let e = first.is_there in omega arith

    waiting : slot_at xs v ≡ Waits k
    waiting = ap (slot_at xs) at_place ∙ first.waiting

    within : v < length xs
    within = let e = at_place in let h = first.within in omega arith

    there : slot_at (set xs v (Settled k)) v ≡ Settled k
    there = get_or-set_same xs v (Settled k) Free within

    elsewhere : (z : ℕ) → z ≢ v → slot_at (set xs v (Settled k)) z ≡ slot_at xs z
    elsewhere z other = get_or-set_other xs v z (Settled k) Free other

    -- settling changes no key
    pub same_key : (z : ℕ) → key_at m (set xs v (Settled k)) z ≡ key_at m xs z
    same_key z =
        ⊎_elim (λ same. ap (key_at m (set xs v (Settled k))) same ∙ ap (keyed m) there ∙ sym (ap (keyed m) waiting) ∙ ap (key_at m xs) (sym same))
        (λ other. ap (keyed m) (elsewhere z other)) (cases_eq z v)

    key_here : key_at m xs v ≡ k
    key_here = ap (keyed m) waiting

    not_done : done_at xs v ≡ false
    not_done = ap is_settled waiting

    done_before : (z : ℕ) → done_at (set xs v (Settled k)) z ≡ true → (z ≡ v) ⊎ (done_at xs z ≡ true)
    done_before z done = ⊎_elim inl (λ other. inr (sym (ap is_settled (elsewhere z other)) ∙ done)) (cases_eq z v)

    undone_before : (z : ℕ) → done_at (set xs v (Settled k)) z ≡ false → done_at xs z ≡ false
    undone_before z undone =
        ⊎_elim (λ same. absurd (both_ways (done_at (set xs v (Settled k)) z) undone (ap (done_at (set xs v (Settled k))) same ∙ ap is_settled there)))
        (λ other. sym (ap is_settled (elsewhere z other)) ∙ undone) (cases_eq z v)

    -- what is settled is keyed no worse than the one that is settled now
    settled_ahead : (x : ℕ) → (x ≡ v) ⊎ (done_at xs x ≡ true) → NoWorse m (key_at m xs x) k
    settled_ahead x = ⊎_elim (λ same. no_worse_of m laws _ _ (ap (key_at m xs) same ∙ key_here)) (λ done. subst (NoWorse m (key_at m xs x)) key_here (side.in_order x v done not_done))

    -- and that one no worse than what is not settled
    ahead_of : (z : ℕ) (x : Slot W) → slot_at xs z ≡ x → is_settled x ≡ false → NoWorse m k (keyed m x)
    ahead_of z Free e h = laws.no_way_worst k
    ahead_of z (Waits w) e h = first.least z w e
    ahead_of z (Settled w) e h = absurd (both_ways true h refl)

    module _ (legs : List (Leg W)) (own : LegsOf n G v legs) where
      long_after : length (set xs v (Settled k)) ≡ n
      long_after = length-set xs v (Settled k) ∙ side.long

      effect : Relaxing m k legs (set xs v (Settled k)) (relaxed m k legs (set xs v (Settled k)))
      effect = relaxing m laws k legs (set xs v (Settled k)) (λ leg h. subst (λ j. leg.to < j) (sym long_after) (own.sections leg h).0)

      -- no settled key changes
      settled_stays : (x : ℕ) → done_at (set xs v (Settled k)) x ≡ true → key_at m (relaxed m k legs (set xs v (Settled k))) x ≡ key_at m xs x
      settled_stays x done =
          ⊎_elim (λ same. ap (keyed m) same ∙ same_key x)
          (λ (leg, h, at, is). absurd (both_ways (done_at (relaxed m k legs (set xs v (Settled k))) x) (ap is_settled is) (effect.same_done x ∙ done)))
          (effect.changed x)

      improved_all : (x : ℕ) → NoWorse m (key_at m (relaxed m k legs (set xs v (Settled k))) x) (key_at m xs x)
      improved_all x = subst (NoWorse m _) (same_key x) (effect.improved x)

      over_new : (u : ℕ) (a : W) → G v u ≡ Some a → NoWorse m (key_at m (relaxed m k legs (set xs v (Settled k))) u) (m.join k a)
      over_new u a e =
          effect.reached (record { from = v; to = u; weight = a }) (own.all u a e)
          (λ done. laws.trans _ k _ (subst (λ x. NoWorse m x k) (sym (same_key u)) (settled_ahead u (done_before u done))) (grows_behind m laws k a))

      still_relaxed : (x u : ℕ) (a : W) → done_at (set xs v (Settled k)) x ≡ true → G x u ≡ Some a → NoWorse m (key_at m (relaxed m k legs (set xs v (Settled k))) u) (m.join (key_at m xs x) a)
      still_relaxed x u a done e =
          ⊎_elim
          (λ same. subst (λ y. NoWorse m (key_at m (relaxed m k legs (set xs v (Settled k))) u) (m.join y a)) (sym (ap (key_at m xs) same ∙ key_here)) (over_new u a (subst (λ y. G y u ≡ Some a) same e)))
          (λ before. laws.trans _ _ _ (improved_all u) (side.relaxed x u a before e))
          (done_before x done)

      still_in_order : (x z : ℕ) → done_at (set xs v (Settled k)) x ≡ true → done_at (set xs v (Settled k)) z ≡ false → NoWorse m (key_at m xs x) (key_at m (relaxed m k legs (set xs v (Settled k))) z)
      still_in_order x z done undone =
          let ahead = settled_ahead x (done_before x done) in
          ⊎_elim
          (λ same. laws.trans _ k _ ahead (subst (NoWorse m k) (sym (ap (keyed m) same ∙ same_key z)) (ahead_of z (slot_at xs z) refl (undone_before z undone))))
          (λ (leg, h, at, is). laws.trans _ k _ ahead (subst (NoWorse m k) (sym (ap (keyed m) is)) (grows_behind m laws k leg.weight)))
          (effect.changed z)

      still_real : (x : ℕ) (j : W) → key_of (slot_at (relaxed m k legs (set xs v (Settled k))) x) ≡ Some j → FromSeed m G seed x j
      still_real x j e =
          ⊎_elim
          (λ same. ⊎_elim
          (λ here.
          let key : k ≡ j = some_same k j (sym (ap key_of (same ∙ ap (slot_at (set xs v (Settled k))) here ∙ there)) ∙ e) in
          subst (FromSeed m G seed x) key (subst (λ y. FromSeed m G seed y k) (sym here) (side.real v k (ap key_of waiting))))
          (λ other. side.real x j (sym (ap key_of (same ∙ elsewhere x other)) ∙ e)) (cases_eq x v))
          (λ (leg, h, at, is).
          let key : m.join k leg.weight ≡ j = some_same _ j (sym (ap key_of is) ∙ e) in
          subst (FromSeed m G seed x) key
          (subst (λ y. FromSeed m G seed y (m.join k leg.weight)) (sym at) (further v leg.to k leg.weight (side.real v k (ap key_of waiting)) (own.sections leg h).1)))
          (effect.changed x)

      -- settling a least waiting station keeps the side
      pub taking_keeps : Side m n G seed (relaxed m k legs (set xs v (Settled k)))
      taking_keeps =
          record {
            long = effect.long ∙ long_after;
            seeded = λ x a e. laws.trans _ _ _ (improved_all x) (side.seeded x a e);
            relaxed = λ x u a done e.
                let before = sym (effect.same_done x) ∙ done in
                subst (λ y. NoWorse m (key_at m (relaxed m k legs (set xs v (Settled k))) u) (m.join y a)) (sym (settled_stays x before)) (still_relaxed x u a before e);
            in_order = λ x z done undone.
                let before = sym (effect.same_done x) ∙ done in
                subst (λ y. NoWorse m y (key_at m (relaxed m k legs (set xs v (Settled k))) z)) (sym (settled_stays x before)) (still_in_order x z before (sym (effect.same_done z) ∙ undone));
            real = still_real;
          }
