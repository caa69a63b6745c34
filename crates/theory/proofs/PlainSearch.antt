-- The plain query answers the best among all walks. Assumes nothing.
use Rattle.std.proofs.Common.{◌≡◌, ℕ, zero, suc, ◌<◌, ◌≤◌, Bool, true, false, cond, eqb, ◌⊎◌, List, length, set, replicate, Some, None, Option, sym, refl, ap, ◌∙◌, subst, inl, inr, ⊎_elim, arith, length-set}
use Rattle.std.proofs.lemmas.List.{get_or_past, get_or-replicate, length-replicate}
use Rattle.std.proofs.lemmas.Bool.{both_ways, cases_Bool, cases_lt, cond-true, eq-eqb, eqb-true}
use Rattle.std.proofs.lemmas.Option.{cond_some}
use Rattle.measure.specs.Meaning.{Meaning}
use Rattle.model.specs.Levels.{grid_of}
use Rattle.model.specs.Lists.{by_some, choose}
use Rattle.model.specs.Networks.{Best, Net, Walk, stop, step, cost}
use Rattle.model.specs.Queries.{arrived, offered, plain_search, relaxed}
use Rattle.model.specs.Slots.{is_settled, key_of, least_from, settling}
use Rattle.model.specs.declared.slot.Slot.{Slot}
use Rattle.model.specs.declared.slot.Slot.TheVariants.{Free, Settled, Waits}
use Rattle.model.specs.Tables.{legs_of}
use Rattle.theory.specs.Laws.{NoWorse, TravelLaws}
use Rattle.theory.specs.Sides.{Bounded, FromSeed, LegsOf, PlainIsRight, Side, done_at, key_at, keyed, slot_at}
use Rattle.theory.proofs.Climbing.{Costing}
use Rattle.theory.proofs.Leasts.{First, Found, Ranks, found}
use Rattle.theory.proofs.Relaxing.{offering, relaxing}
use Rattle.theory.proofs.Searching.{taking_keeps}
use Rattle.theory.proofs.Tabs.{grid_leg, has_grid_leg, none_some, some_same}
use Rattle.theory.proofs.Undone.{undone, undone_most, undone_none, undone_same, undone_set}
use Rattle.theory.proofs.Weighing.{grows_behind, no_worse_of}

-- a search that starts at one station, free
abbrev pub only : {W : Type 0} → Meaning W → ℕ → ℕ → Option W
only m s x = cond (eqb x s) (Some m.free) None

module _ {W : Type 0} (m : Meaning W) (laws : TravelLaws m) where
  pub ranks : Ranks m.leb
  ranks = record { total = laws.total; trans = laws.trans }

  pub idle_everywhere : (n x : ℕ) → slot_at (replicate {A = Slot W} n Free) x ≡ Free
  idle_everywhere n x =
      ⊎_elim (λ below. get_or-replicate n x Free Free below) (λ above. get_or_past (replicate n Free) x Free (subst (λ k. k ≤ x) (sym (length-replicate n Free)) above)) (cases_lt x n)

  module _ (n : ℕ) (G : Net W) (bounded : Bounded n G) (s t : ℕ) (hs : s < n) (ht : t < n) where
    started : Side m n G (only m s) (offered m s m.free (replicate n Free))
    started =
        let long : length (replicate {A = Slot W} n Free) ≡ n = length-replicate n Free in
        let o = offering m laws s m.free (replicate n Free) (subst (λ k. s < k) (sym long) hs) in
        let never : (x : ℕ) → done_at (offered m s m.free (replicate n Free)) x ≡ true → ⊥ = λ x h. both_ways _ (o.same_done x ∙ ap is_settled (idle_everywhere n x)) h in
        record {
          long = o.long ∙ long;
          seeded = λ x a e.
              let (here, free) = cond_some (eqb x s) m.free a e in
              subst (NoWorse m _) free (subst (λ y. NoWorse m (key_at m (offered m s m.free (replicate n Free)) y) m.free) (sym (eqb-true x s here)) (o.reached (λ h. absurd (both_ways _ (ap is_settled (idle_everywhere n s)) h))));
          relaxed = λ x u a done e. absurd (never x done);
          in_order = λ x z done undone. absurd (never x done);
          real = λ x k e.
              ⊎_elim
              (λ same. absurd (none_some k (sym (ap key_of (same ∙ idle_everywhere n x)) ∙ e)))
              (λ (at, is).
              let key : m.free ≡ k = some_same m.free k (sym (ap key_of is) ∙ e) in
              subst (λ y. FromSeed m G (only m s) y k) (sym at)
              (record { start = s; weight = m.free; is_seed = cond-true _ _ _ (eq-eqb s s refl); walk = stop; whole = sym key ∙ sym (laws.free_left m.free) }))
              (o.changed x);
        }

    module _ (xs : List (Slot W)) (side : Side m n G (only m s) xs) (c : W) (ahead : (z : ℕ) → done_at xs z ≡ false → NoWorse m c (key_at m xs z)) (there : NoWorse m c (key_at m xs t)) where
      -- no walk to t from a station that is keyed no worse than a is better than c
      follow : {x : ℕ} (a : W) → NoWorse m (key_at m xs x) a → (q : Walk G t x) → NoWorse m c (m.join a (cost m q))
      follow a h stop = subst (NoWorse m c) (sym (laws.free_right a)) (laws.trans _ _ _ there h)
      follow a h (step x u b e q) =
          ⊎_elim
          (λ done. subst (NoWorse m c) (laws.assoc a b (cost m q)) (follow (m.join a b) (laws.trans _ _ _ (side.relaxed x u b done e) (laws.mono_left _ _ b h)) q))
          (λ undone. laws.trans _ _ _ (ahead x undone) (laws.trans _ a _ h (grows_behind m laws a _)))
          (cases_Bool (done_at xs x))

      pub none_better : (p : Walk G t s) → NoWorse m c (cost m p)
      none_better p = subst (NoWorse m c) (laws.free_left (cost m p)) (follow m.free (side.seeded s m.free (cond-true _ _ _ (eq-eqb s s refl))) p)

    -- a key of the search from s alone is the cost of a walk
    walk_of : (x : ℕ) (k : W) → FromSeed m G (only m s) x k → Costing m G x s k
    walk_of x k f =
        let (here, free) = cond_some (eqb f.start s) m.free f.weight f.is_seed in
        subst (λ y. Costing m G x y k) (eqb-true f.start s here)
        (f.walk, sym (f.whole ∙ ap (λ w. m.join w (cost m f.walk)) (sym free) ∙ laws.free_left (cost m f.walk)))

    -- once t is settled, or nothing waits, the answer is the best
    finish : (xs : List (Slot W)) → Side m n G (only m s) xs → (done_at xs t ≡ true) ⊎ ((z : ℕ) (w : W) → slot_at xs z ≡ Waits w → ⊥) → (x : Slot W) → slot_at xs t ≡ x → Best m G s t (arrived m x)
    finish xs side over (Settled w) e =
        let key : key_at m xs t ≡ w = ap (keyed m) e in
        record {
          none_better = none_better xs side w (λ z undone. subst (λ k. NoWorse m k (key_at m xs z)) key (side.in_order t z (ap is_settled e) undone)) (no_worse_of m laws _ _ (sym key));
          reached = inr (walk_of t w (side.real t w (ap key_of e)));
        }
    finish xs side over Free e =
        let none : (z : ℕ) (w : W) → slot_at xs z ≡ Waits w → ⊥ = ⊎_elim (λ done. absurd (both_ways (done_at xs t) (ap is_settled e) done)) (λ h. h) over in
        record {
          none_better = none_better xs side m.no_way (λ z undone. keyless xs none z (slot_at xs z) refl undone) (no_worse_of m laws _ _ (sym (ap (keyed m) e)));
          reached = inl refl;
        }
      where
        keyless : (ys : List (Slot W)) → ((z : ℕ) (w : W) → slot_at ys z ≡ Waits w → ⊥) → (z : ℕ) (x : Slot W) → slot_at ys z ≡ x → is_settled x ≡ false → NoWorse m m.no_way (keyed m x)
        keyless ys none z Free h undone = no_worse_of m laws _ _ refl
        keyless ys none z (Waits w) h undone = absurd (none z w h)
        keyless ys none z (Settled w) h undone = absurd (both_ways true undone refl)
    finish xs side over (Waits w) e =
        absurd (⊎_elim (λ done. both_ways (done_at xs t) (ap is_settled e) done) (λ none. none t w e) over)

    own_legs : (v : ℕ) → v < n → LegsOf n G v (legs_of (grid_of n G) v)
    own_legs v hv =
        record { sections = λ leg h. grid_leg n G v leg hv h; all = λ u a e. has_grid_leg n G v u a hv (bounded v u a e).1 e }

    -- one station less is left to settle
    fewer : (xs : List (Slot W)) (v : ℕ) (k : W) → length xs ≡ n → First m.leb 0 xs v k → undone xs ≡ suc (undone (relaxed m k (legs_of (grid_of n G) v) (set xs v (Settled k))))
    fewer xs v k long first =
        let at : v ≡ first.place = let e = first.is_there in omega arith in
        let within : v < length xs = let h = first.within in omega arith in
        let r = relaxing m laws k (legs_of (grid_of n G) v) (set xs v (Settled k)) (λ leg h. subst (λ j. leg.to < j) (sym (length-set xs v (Settled k) ∙ long)) (grid_leg n G v leg (omega arith) h).0) in
        undone_set xs v k within (ap is_settled (ap (slot_at xs) at ∙ first.waiting)) ∙ ap suc (sym (undone_same _ _ r.long r.same_done))

    -- one turn of the search, where further turns go right
    module _ (turns : ℕ) (xs : List (Slot W)) (count : ℕ) (side : Side m n G (only m s) xs) (few : undone xs ≤ suc turns) (on : (ys : List (Slot W)) → Side m n G (only m s) ys → undone ys ≤ turns → Best m G s t (plain_search m (grid_of n G) t turns ys (suc count)).cost) where
      by_least : (r : Option (ℕ × W)) → Found m.leb 0 xs r → Best m G s t (by_some r (record { cost = arrived m (slot_at xs t); settled = count }) (λ p. plain_search m (grid_of n G) t turns (relaxed m p.1 (legs_of (grid_of n G) p.0) (settling p xs)) (suc count))).cost
      by_least None f = finish xs side (inr f) (slot_at xs t) refl
      by_least (Some p) f =
          let at : p.0 ≡ f.place = let e = f.is_there in omega arith in
          let hv : p.0 < n = let h = f.within in let long = side.long in omega arith in
          let less = fewer xs p.0 p.1 side.long f in
          on _ (taking_keeps m laws n G (only m s) xs side p.0 p.1 f (legs_of (grid_of n G) p.0) (own_legs p.0 hv)) (omega arith)

      by_test : (b : Bool) → done_at xs t ≡ b → Best m G s t (choose b (λ _. record { cost = arrived m (slot_at xs t); settled = count }) (λ _. by_some (least_from m.leb 0 xs) (record { cost = arrived m (slot_at xs t); settled = count }) (λ p. plain_search m (grid_of n G) t turns (relaxed m p.1 (legs_of (grid_of n G) p.0) (settling p xs)) (suc count)))).cost
      by_test true e = finish xs side (inl e) (slot_at xs t) refl
      by_test false e = by_least (least_from m.leb 0 xs) (found m.leb ranks 0 xs)

    run : (turns : ℕ) (xs : List (Slot W)) (count : ℕ) → Side m n G (only m s) xs → undone xs ≤ turns → Best m G s t (plain_search m (grid_of n G) t turns xs count).cost
    unfolding plain_search
    run zero xs count side few =
        finish xs side (inl (undone_none xs (omega arith) t (subst (λ k. t < k) (sym side.long) ht))) (slot_at xs t) refl
    run (suc turns) xs count side few = by_test turns xs count side few (λ ys ok less. run turns ys (suc count) ok less) (done_at xs t) refl

pub plain_is_right : {W : Type 0} (m : Meaning W) → TravelLaws m → PlainIsRight m
plain_is_right m laws n G bounded s t hs ht =
    let side = started m laws n G bounded s t hs ht in
    run m laws n G bounded s t hs ht n _ 0 side (subst (λ k. undone (offered m s m.free (replicate n Free)) ≤ k) side.long (undone_most _))
