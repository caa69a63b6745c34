-- The search from both sides, turn by turn. Assumes nothing.
use Rattle.std.proofs.Common.{◌≡◌, ℕ, zero, suc, ◌+◌, ◌<◌, ◌≤◌, Bool, true, false, List, length, set, Some, None, Option, sym, refl, ap, ◌∙◌, subst, ⊎_elim, arith, length-set}
use Rattle.std.proofs.lemmas.List.{get_or_past}
use Rattle.std.proofs.lemmas.Bool.{both_ways, cases_lt, not-false}
use Rattle.measure.specs.Meaning.{Meaning, better}
use Rattle.model.specs.Levels.{Grid}
use Rattle.model.specs.Lists.{by_some, choose}
use Rattle.model.specs.Networks.{Net, Walk, cost}
use Rattle.model.specs.Queries.{Search, forward_step, next_step, reached, reverse_step, turned, two_sided}
use Rattle.model.specs.Slots.{is_settled, key_of, least_from, settling}
use Rattle.model.specs.declared.slot.Slot.{Slot}
use Rattle.model.specs.declared.slot.Slot.TheVariants.{Free, Settled, Waits}
use Rattle.model.specs.Tables.{legs_of}
use Rattle.model.specs.declared.records.Leg.{Leg}
use Rattle.theory.specs.Laws.{NoWorse, TravelLaws}
use Rattle.theory.specs.Sides.{FromSeed, LegsOf, Mem, Side, done_at, key_at, keyed, slot_at}
use Rattle.theory.specs.Towers.{back}
use Rattle.theory.specs.TwoSided.{MeetsIn, UnderWay}
use Rattle.theory.proofs.Leasts.{First, Found, found}
use Rattle.theory.proofs.PlainSearch.{ranks}
use Rattle.theory.proofs.Reaching.{reached_kind, reached_met, reached_slots}
use Rattle.theory.proofs.Relaxing.{relaxing}
use Rattle.theory.proofs.Searching.{further, same_key, taking_keeps}
use Rattle.theory.proofs.Stopped.{stop_is_right}
use Rattle.theory.proofs.Undone.{undone, undone_none, undone_same, undone_set}
use Rattle.theory.proofs.Weighing.{no_worse_of, no_worse_refl, turned_laws}

-- what a step does on the side where it settles
pub record Stepped {W : Type 0} (m : Meaning W) (n : ℕ) (R : Net W) (seed : ℕ → Option W) (Kind : W → Type 0) (mine other : List (Slot W)) (best : W) (result : List (Slot W) × W) : Type 0 where
  pub side : Side m n R seed result.0
  pub improved : NoWorse m result.1 best
  pub meets : (x : ℕ) → NoWorse m result.1 (m.join (key_at m result.0 x) (key_at m other x))
  pub kind : Kind result.1
  pub fewer : undone mine ≡ suc (undone result.0)

module _ {W : Type 0} (m : Meaning W) (laws : TravelLaws m) (n : ℕ) (R : Net W) (seed : ℕ → Option W) (Kind : W → Type 0) where
  stepped : (mine other : List (Slot W)) (best : W) (v : ℕ) (k : W) (legs : List (Leg W)) → Side m n R seed mine → First m.leb 0 mine v k → LegsOf n R v legs
      → ((x : ℕ) → NoWorse m best (m.join (key_at m mine x) (key_at m other x))) → Kind best
      → ((x : ℕ) (a j : W) → FromSeed m R seed x a → key_of (slot_at other x) ≡ Some j → Kind (m.join a j))
      → Stepped m n R seed Kind mine other best (reached m k legs (set mine v (Settled k)) other best)
  stepped mine other best v k legs side first own meets old new =
      let at : v ≡ first.place = let e = first.is_there in omega arith in
      let within : v < length mine = let h = first.within in omega arith in
      let waiting : slot_at mine v ≡ Waits k = ap (slot_at mine) at ∙ first.waiting in
      let inside : (leg : Leg W) → Mem leg legs → leg.to < length (set mine v (Settled k)) = λ leg h. subst (λ j. leg.to < j) (sym (length-set mine v (Settled k) ∙ side.long)) (own.sections leg h).0 in
      let slots = reached_slots m laws k legs (set mine v (Settled k)) other best in
      let met = reached_met m laws k legs (set mine v (Settled k)) other best inside (λ x. subst (λ y. NoWorse m best (m.join y (key_at m other x))) (sym (same_key m laws n R seed mine side v k first x)) (meets x)) in
      let r = relaxing m laws k legs (set mine v (Settled k)) inside in
      record {
        side = subst (Side m n R seed) (sym slots) (taking_keeps m laws n R seed mine side v k first legs own);
        improved = met.improved;
        meets = λ x. subst (λ ys. NoWorse m (reached m k legs (set mine v (Settled k)) other best).1 (m.join (key_at m ys x) (key_at m other x))) (sym slots) (met.meets x);
        kind = reached_kind m laws Kind k legs (set mine v (Settled k)) other best old (λ leg h j e. new leg.to _ j (further m laws n R seed v leg.to k leg.weight (side.real v k (ap key_of waiting)) (own.sections leg h).1) e);
        fewer = undone_set mine v k within (ap is_settled waiting) ∙ ap suc (sym (undone_same _ _ r.long r.same_done)) ∙ ap (λ ys. suc (undone ys)) (sym slots);
      }

-- what a search from both sides comes to: no worse than where it started, nor than any walk between seeds, and of its kind
pub record Ended {W : Type 0} (m : Meaning W) (R : Net W) (seed seed_back : ℕ → Option W) (Kind : W → Type 0) (start : W) (s : Search W) : Type 0 where
  pub improved : NoWorse m s.best start
  pub right : (x y : ℕ) (a b : W) → seed x ≡ Some a → seed_back y ≡ Some b → (q : Walk R y x) → NoWorse m s.best (m.join a (m.join (cost m q) b))
  pub kind : Kind s.best

pub keyed_turned : {W : Type 0} (m : Meaning W) (x : Slot W) → keyed (turned m) x ≡ keyed m x
keyed_turned m Free = refl
keyed_turned m (Waits w) = refl
keyed_turned m (Settled w) = refl

-- the least key that waits, no way where nothing waits
abbrev least_key : {W : Type 0} → Meaning W → Option (ℕ × W) → W
least_key m None = m.no_way
least_key m (Some p) = p.1

module _ {W : Type 0} (m : Meaning W) (laws : TravelLaws m) where
  -- it is no worse than any key that is not settled
  least_ahead : (xs : List (Slot W)) (r : Option (ℕ × W)) → Found m.leb 0 xs r → (z : ℕ) → done_at xs z ≡ false → NoWorse m (least_key m r) (key_at m xs z)
  least_ahead xs None f z undone = by_slot (slot_at xs z) refl undone
    where
      by_slot : (x : Slot W) → slot_at xs z ≡ x → is_settled x ≡ false → NoWorse m m.no_way (keyed m x)
      by_slot Free e h = no_worse_refl m laws m.no_way
      by_slot (Waits w) e h = absurd (f z w e)
      by_slot (Settled w) e h = absurd (both_ways true h refl)
  least_ahead xs (Some p) f z undone = by_slot (slot_at xs z) refl undone
    where
      by_slot : (x : Slot W) → slot_at xs z ≡ x → is_settled x ≡ false → NoWorse m p.1 (keyed m x)
      by_slot Free e h = laws.no_way_worst p.1
      by_slot (Waits w) e h = f.least z w e
      by_slot (Settled w) e h = absurd (both_ways true h refl)

module _ {W : Type 0} (m : Meaning W) (laws : TravelLaws m) (n : ℕ) (R : Net W) (g : Grid W) (seed seed_back : ℕ → Option W) (Kind : W → Type 0) (meets_in : MeetsIn m R seed seed_back Kind)
    (own : (v : ℕ) (k : W) → FromSeed m R seed v k → LegsOf n R v (legs_of g v))
    (own_back : (v : ℕ) (k : W) → FromSeed (turned m) (back R) seed_back v k → LegsOf n (back R) v (legs_of g v)) where
  back_laws : TravelLaws (turned m)
  back_laws = turned_laws m laws

  pub first_key : (xs : List (Slot W)) (v : ℕ) (k : W) → First m.leb 0 xs v k → key_of (slot_at xs v) ≡ Some k
  first_key xs v k f = let at : v ≡ f.place = let e = f.is_there in omega arith in ap key_of (ap (slot_at xs) at ∙ f.waiting)

  -- a step on the forward side, and on the reverse one
  goes_forward : (s : Search W) → UnderWay m n R seed seed_back Kind s → (p : ℕ × W) → First m.leb 0 s.forward p.0 p.1 → Stepped m n R seed Kind s.forward s.reverse s.best (reached m p.1 (legs_of g p.0) (settling p s.forward) s.reverse s.best)
  goes_forward s u p f =
      stepped m laws n R seed Kind s.forward s.reverse s.best p.0 p.1 (legs_of g p.0) u.forward_ok f (own p.0 p.1 (u.forward_ok.real p.0 p.1 (first_key s.forward p.0 p.1 f))) u.meets u.kind
      (λ x a j from e. meets_in x a j from (u.reverse_ok.real x j e))

  meets_back : (s : Search W) → UnderWay m n R seed seed_back Kind s → (x : ℕ) → NoWorse m s.best (m.join (key_at (turned m) s.forward x) (key_at (turned m) s.reverse x))
  meets_back s u x =
      subst (λ y. NoWorse m s.best (m.join y (key_at (turned m) s.reverse x))) (sym (keyed_turned m (slot_at s.forward x)))
      (subst (λ y. NoWorse m s.best (m.join (key_at m s.forward x) y)) (sym (keyed_turned m (slot_at s.reverse x))) (u.meets x))

  goes_back : (s : Search W) → UnderWay m n R seed seed_back Kind s → (q : ℕ × W) → First m.leb 0 s.reverse q.0 q.1 → Stepped (turned m) n (back R) seed_back Kind s.reverse s.forward s.best (reached (turned m) q.1 (legs_of g q.0) (settling q s.reverse) s.forward s.best)
  goes_back s u q f =
      stepped (turned m) back_laws n (back R) seed_back Kind s.reverse s.forward s.best q.0 q.1 (legs_of g q.0) u.reverse_ok f (own_back q.0 q.1 (u.reverse_ok.real q.0 q.1 (first_key s.reverse q.0 q.1 f))) (meets_back s u) u.kind
      (λ x a j from e. meets_in x j a (u.forward_ok.real x j e) from)

  pub forward_way : (s : Search W) → UnderWay m n R seed seed_back Kind s → (p : ℕ × W) → First m.leb 0 s.forward p.0 p.1 → UnderWay m n R seed seed_back Kind (forward_step m g p s)
  forward_way s u p f =
      let r = goes_forward s u p f in
      record { forward_ok = r.side; reverse_ok = u.reverse_ok; meets = r.meets; kind = r.kind }

  pub reverse_way : (s : Search W) → UnderWay m n R seed seed_back Kind s → (q : ℕ × W) → First m.leb 0 s.reverse q.0 q.1 → UnderWay m n R seed seed_back Kind (reverse_step m g q s)
  reverse_way s u q f =
      let r = goes_back s u q f in
      record {
        forward_ok = u.forward_ok;
        reverse_ok = r.side;
        meets = λ x.
            subst (λ y. NoWorse m (reverse_step m g q s).best (m.join y (key_at m (reverse_step m g q s).reverse x))) (keyed_turned m (slot_at s.forward x))
            (subst (λ y. NoWorse m (reverse_step m g q s).best (m.join (key_at (turned m) s.forward x) y)) (keyed_turned m (slot_at (reverse_step m g q s).reverse x)) (r.meets x));
        kind = r.kind;
      }

  -- at rest the best so far is right
  rests : (s : Search W) → UnderWay m n R seed seed_back Kind s → (a b : W) → ((z : ℕ) → done_at s.forward z ≡ false → NoWorse m a (key_at m s.forward z)) → ((z : ℕ) → done_at s.reverse z ≡ false → NoWorse m b (key_at (turned m) s.reverse z)) → NoWorse m s.best (m.join a b) → Ended m R seed seed_back Kind s.best s
  rests s u a b waiting waiting_back stops =
      record {
        improved = no_worse_refl m laws s.best;
        right = λ x y c d e f q. stop_is_right m laws R (key_at m s.forward) (key_at (turned m) s.reverse) (done_at s.forward) (done_at s.reverse) a b s.best
            (record {
              relaxed = u.forward_ok.relaxed;
              relaxed_back = u.reverse_ok.relaxed;
              waiting = waiting;
              waiting_back = waiting_back;
              meets = λ z. subst (λ k. NoWorse m s.best (m.join (key_at m s.forward z) k)) (sym (keyed_turned m (slot_at s.reverse z))) (u.meets z);
              stops = stops;
            })
            x y c d (u.forward_ok.seeded x c e) (u.reverse_ok.seeded y d f) q;
        kind = u.kind;
      }

  -- a later end is one of an earlier start
  from_earlier : (start later : W) (s : Search W) → NoWorse m later start → Ended m R seed seed_back Kind later s → Ended m R seed seed_back Kind start s
  from_earlier start later s less e = record { improved = laws.trans _ later start e.improved less; right = e.right; kind = e.kind }

  -- where all stations of a side are settled, no key is missed
  all_done : (xs : List (Slot W)) → undone xs ≡ 0 → (z : ℕ) → done_at xs z ≡ false → NoWorse m m.no_way (key_at m xs z)
  all_done xs none z undone_z =
      ⊎_elim (λ below. absurd (both_ways (done_at xs z) undone_z (undone_none xs none z below)))
      (λ above. no_worse_of m laws _ _ (sym (ap (keyed m) (get_or_past xs z Free above)))) (cases_lt z (length xs))

  lost : (best : W) (c : W) → c ≡ m.no_way → NoWorse m best c
  lost best c e = subst (NoWorse m best) (sym e) (laws.no_way_worst best)

  -- one turn, where further turns go right
  module _ (turns : ℕ) (s : Search W) (u : UnderWay m n R seed seed_back Kind s) (few : undone s.forward + undone s.reverse ≤ suc turns)
      (on : (s' : Search W) → UnderWay m n R seed seed_back Kind s' → undone s'.forward + undone s'.reverse ≤ turns → Ended m R seed seed_back Kind s'.best (two_sided m g turns s')) where
    by_side : (p q : ℕ × W) → First m.leb 0 s.forward p.0 p.1 → First m.leb 0 s.reverse q.0 q.1 → (b : Bool) → Ended m R seed seed_back Kind s.best (two_sided m g turns (choose b (λ _. forward_step m g p s) (λ _. reverse_step m g q s)))
    by_side p q f h true =
        let r = goes_forward s u p f in
        let less = r.fewer in
        from_earlier s.best _ _ r.improved (on (forward_step m g p s) (forward_way s u p f) (omega arith))
    by_side p q f h false =
        let r = goes_back s u q h in
        let less = r.fewer in
        from_earlier s.best _ _ r.improved (on (reverse_step m g q s) (reverse_way s u q h) (omega arith))

    by_stop : (p q : ℕ × W) → First m.leb 0 s.forward p.0 p.1 → First m.leb 0 s.reverse q.0 q.1 → (b : Bool) → better m (m.join p.1 q.1) s.best ≡ b → Ended m R seed seed_back Kind s.best (choose b (λ _. two_sided m g turns (next_step m g p q s)) (λ _. s))
    by_stop p q f h true e = by_side p q f h (m.leb p.1 q.1)
    by_stop p q f h false e =
        rests s u p.1 q.1 (least_ahead m laws s.forward (Some p) f) (least_ahead (turned m) back_laws s.reverse (Some q) h) (not-false (m.leb s.best (m.join p.1 q.1)) e)

    by_reverse : (p : ℕ × W) → First m.leb 0 s.forward p.0 p.1 → (r : Option (ℕ × W)) → Found m.leb 0 s.reverse r → Ended m R seed seed_back Kind s.best (by_some r s (λ q. choose (better m (m.join p.1 q.1) s.best) (λ _. two_sided m g turns (next_step m g p q s)) (λ _. s)))
    by_reverse p f None h =
        rests s u p.1 m.no_way (least_ahead m laws s.forward (Some p) f) (least_ahead (turned m) back_laws s.reverse None h) (lost s.best _ (laws.no_way_right p.1))
    by_reverse p f (Some q) h = by_stop p q f h (better m (m.join p.1 q.1) s.best) refl

    by_forward : (r : Option (ℕ × W)) → Found m.leb 0 s.forward r → Ended m R seed seed_back Kind s.best (by_some r s (λ p. by_some (least_from m.leb 0 s.reverse) s (λ q. choose (better m (m.join p.1 q.1) s.best) (λ _. two_sided m g turns (next_step m g p q s)) (λ _. s))))
    by_forward None f =
        rests s u m.no_way (least_key (turned m) (least_from m.leb 0 s.reverse)) (least_ahead m laws s.forward None f) (least_ahead (turned m) back_laws s.reverse (least_from m.leb 0 s.reverse) (found m.leb (ranks m laws) 0 s.reverse)) (lost s.best _ (laws.no_way_left _))
    by_forward (Some p) f = by_reverse p f (least_from m.leb 0 s.reverse) (found m.leb (ranks m laws) 0 s.reverse)

  -- the search from both sides comes to a right end, whichever side goes when
  pub search_is_right : (turns : ℕ) (s : Search W) → UnderWay m n R seed seed_back Kind s → undone s.forward + undone s.reverse ≤ turns → Ended m R seed seed_back Kind s.best (two_sided m g turns s)
  unfolding two_sided
  search_is_right zero s u few =
      rests s u m.no_way m.no_way (all_done s.forward (omega arith))
      (λ z h. subst (NoWorse m m.no_way) (sym (keyed_turned m (slot_at s.reverse z))) (all_done s.reverse (omega arith) z h)) (lost s.best _ (laws.no_way_left m.no_way))
  search_is_right (suc turns) s u few =
      by_forward turns s u few (λ s' u' less. search_is_right turns s' u' less) (least_from m.leb 0 s.forward) (found m.leb (ranks m laws) 0 s.forward)
