-- Picked stations are independent. Assumes nothing.
use Rattle.std.proofs.Common.{◌≡◌, ℕ, zero, suc, ◌<◌, Bool, true, false, cond, leb, ◌≢◌, ◌⊎◌, List, get_or, set, is_some, Some, None, Option, sym, refl, ap, ◌∙◌, subst, inl, inr, ⊎_elim, arith, get_or-set_other, get_or-set_same}
use Rattle.std.proofs.lemmas.Bool.{both_ways, cases_eq, cases_lt}
use Rattle.std.proofs.lemmas.Bool.Decides.{nat_tests}
use Rattle.model.specs.Levels.{Stage, bar_next, barred, candidates, is_picked, look, picking, picks, present, row, row_count}
use Rattle.model.specs.Lists.{by_some}
use Rattle.model.specs.Slots.{is_settled, least_from, settling}
use Rattle.model.specs.declared.slot.Slot.{Slot}
use Rattle.model.specs.declared.slot.Slot.TheVariants.{Free, Settled, Waits}
use Rattle.theory.specs.Sides.{done_at, slot_at}
use Rattle.theory.proofs.Leasts.{First, Found, Ranks, found}
use Rattle.theory.proofs.Tabs.{get_or_tab, get_or_tab_past}

-- the stations of a stage that go on are joined to each other, both ways, and to no station itself
pub record SoundStage {W : Type 0} (n : ℕ) (t : Stage W) : Type 0 where
  pub inside : (u w : ℕ) (a : W) → present t.levels u ≡ true → look t.rows u w ≡ Some a → (u < n) × (w < n) × (present t.levels w ≡ true) × (u ≢ w)
  pub back : (u w : ℕ) (a : W) → present t.levels u ≡ true → look t.rows u w ≡ Some a → look t.rows w u ≡ Some a

by_number : Ranks leb
by_number = record { total = λ a b. grind (arith, nat_tests); trans = λ a b c. grind (arith, nat_tests) }

module _ {W : Type 0} (n : ℕ) (t : Stage W) (sound : SoundStage n t) where
  -- what picking keeps: settled stations are joined to none that is settled or waits, and all of them go on
  pub record Apart (xs : List (Slot ℕ)) : Type 0 where
    pub settled_apart : (u v : ℕ) (a : W) → done_at xs u ≡ true → done_at xs v ≡ true → look t.rows u v ≡ Some a → ⊥
    pub waiting_apart : (u v k : ℕ) (a : W) → done_at xs u ≡ true → slot_at xs v ≡ Waits k → look t.rows u v ≡ Some a → ⊥
    pub settled_present : (u : ℕ) → done_at xs u ≡ true → present t.levels u ≡ true
    pub waiting_present : (u k : ℕ) → slot_at xs u ≡ Waits k → present t.levels u ≡ true

  start_slot_is : (u : ℕ) → (slot_at (candidates n t) u ≡ Free) ⊎ ((present t.levels u ≡ true) × (slot_at (candidates n t) u ≡ Waits (row_count (row t.rows u))))
  start_slot_is u =
      ⊎_elim (λ below. by_test (present t.levels u) refl (get_or_tab n _ u Free below)) (λ above. inl (get_or_tab_past n _ u Free above)) (cases_lt u n)
    where
      by_test : (b : Bool) → present t.levels u ≡ b → slot_at (candidates n t) u ≡ cond (present t.levels u) (Waits (row_count (row t.rows u))) Free → (slot_at (candidates n t) u ≡ Free) ⊎ ((present t.levels u ≡ true) × (slot_at (candidates n t) u ≡ Waits (row_count (row t.rows u))))
      by_test true is e = inr (is, e ∙ ap (λ b. cond b (Waits (row_count (row t.rows u))) Free) is)
      by_test false is e = inl (e ∙ ap (λ b. cond b (Waits (row_count (row t.rows u))) Free) is)

  idle_not_waits : (k : ℕ) → Free ≡ Waits k → ⊥
  idle_not_waits k e = let z : ◌≡◌ {A = ℕ} 0 1 = cc in absurd (omega arith)

  settled_not_waits : (j k : ℕ) → Settled j ≡ Waits k → ⊥
  settled_not_waits j k e = let z : ◌≡◌ {A = ℕ} 0 1 = cc in absurd (omega arith)

  start_undone : (u : ℕ) → done_at (candidates n t) u ≡ true → ⊥
  start_undone u done = ⊎_elim (λ e. both_ways _ (ap is_settled e) done) (λ (p, e). both_ways _ (ap is_settled e) done) (start_slot_is u)

  apart_start : Apart (candidates n t)
  apart_start =
      record {
        settled_apart = λ u v a hu hv e. start_undone u hu;
        waiting_apart = λ u v k a hu hv e. start_undone u hu;
        settled_present = λ u hu. absurd (start_undone u hu);
        waiting_present = λ u k e. ⊎_elim (λ none. absurd (idle_not_waits k (sym none ∙ e))) (λ (p, is). p) (start_slot_is u);
      }

  -- barring keeps what is settled, and what still waits waited before
  barred_done : (x : Slot ℕ) → is_settled (barred x) ≡ is_settled x
  barred_done Free = refl
  barred_done (Waits k) = refl
  barred_done (Settled k) = refl

  barred_waits : (x : Slot ℕ) (k : ℕ) → barred x ≡ Waits k → ⊥
  barred_waits Free k e = idle_not_waits k e
  barred_waits (Waits j) k e = idle_not_waits k e
  barred_waits (Settled j) k e = settled_not_waits j k e

  module _ (xs : List (Slot ℕ)) (apart : Apart xs) (v d : ℕ) (first : First leb 0 xs v d) where
    at_place : v ≡ first.place
    at_place = let e = first.is_there in omega arith

    waiting : slot_at xs v ≡ Waits d
    waiting = ap (slot_at xs) at_place ∙ first.waiting

    there : slot_at (set xs v (Settled d)) v ≡ Settled d
    there = get_or-set_same xs v (Settled d) Free (let e = at_place in let h = first.within in omega arith)

    done_before : (u : ℕ) → done_at (bar_next n (row t.rows v) (set xs v (Settled d))) u ≡ true → (u ≡ v) ⊎ (done_at xs u ≡ true)
    done_before u done =
        ⊎_elim
        (λ below. ⊎_elim inl
        (λ other. inr (sym (ap is_settled (get_or-set_other xs v u (Settled d) Free other)) ∙ sym (same below) ∙ done)) (cases_eq u v))
        (λ above. absurd (both_ways _ (ap is_settled (get_or_tab_past n _ u Free above)) done)) (cases_lt u n)
      where
        kept : (b : Bool) (x : Slot ℕ) → is_settled (cond b (barred x) x) ≡ is_settled x
        kept true x = barred_done x
        kept false x = refl

        same : u < n → done_at (bar_next n (row t.rows v) (set xs v (Settled d))) u ≡ done_at (set xs v (Settled d)) u
        same below = ap is_settled (get_or_tab n _ u Free below) ∙ kept (is_some (get_or (row t.rows v) u None)) (slot_at (set xs v (Settled d)) u)

    waits_before : (u k : ℕ) → slot_at (bar_next n (row t.rows v) (set xs v (Settled d))) u ≡ Waits k → (slot_at xs u ≡ Waits k) × (is_some (look t.rows v u) ≡ false)
    waits_before u k e =
        ⊎_elim (λ below. by_test (is_some (look t.rows v u)) refl (sym (get_or_tab n _ u Free below) ∙ e)) (λ above. absurd (idle_not_waits k (sym (get_or_tab_past n _ u Free above) ∙ e))) (cases_lt u n)
      where
        by_test : (b : Bool) → is_some (look t.rows v u) ≡ b → cond (is_some (look t.rows v u)) (barred (slot_at (set xs v (Settled d)) u)) (slot_at (set xs v (Settled d)) u) ≡ Waits k → (slot_at xs u ≡ Waits k) × (is_some (look t.rows v u) ≡ false)
        by_test true is h = absurd (barred_waits (slot_at (set xs v (Settled d)) u) k (sym (ap (λ b. cond b (barred (slot_at (set xs v (Settled d)) u)) (slot_at (set xs v (Settled d)) u)) is) ∙ h))
        by_test false is h =
            let still : slot_at (set xs v (Settled d)) u ≡ Waits k = sym (ap (λ b. cond b (barred (slot_at (set xs v (Settled d)) u)) (slot_at (set xs v (Settled d)) u)) is) ∙ h in
            let other : u ≢ v = λ same. settled_not_waits d k (sym there ∙ ap (slot_at (set xs v (Settled d))) (sym same) ∙ still) in
            (sym (get_or-set_other xs v u (Settled d) Free other) ∙ still, is)

    here_present : present t.levels v ≡ true
    here_present = apart.waiting_present v d waiting

    some_is : (u : ℕ) (a : W) → look t.rows v u ≡ Some a → is_some (look t.rows v u) ≡ false → ⊥
    some_is u a e none = both_ways _ none (ap is_some e)

    apart_next : Apart (bar_next n (row t.rows v) (set xs v (Settled d)))
    apart_next =
        record {
          settled_apart = λ u w a hu hw e.
              ⊎_elim
              (λ here. ⊎_elim
              (λ there_too. (sound.inside v w a here_present (subst (λ x. look t.rows x w ≡ Some a) here e)).3 (sym there_too))
              (λ old. apart.waiting_apart w v d a old waiting (sound.back v w a here_present (subst (λ x. look t.rows x w ≡ Some a) here e)))
              (done_before w hw))
              (λ old. ⊎_elim
              (λ here. apart.waiting_apart u v d a old waiting (subst (λ x. look t.rows u x ≡ Some a) here e))
              (λ old_too. apart.settled_apart u w a old old_too e) (done_before w hw))
              (done_before u hu);
          waiting_apart = λ u w k a hu hw e.
              let (before, clear) = waits_before w k hw in
              ⊎_elim (λ here. some_is w a (subst (λ x. look t.rows x w ≡ Some a) here e) clear) (λ old. apart.waiting_apart u w k a old before e) (done_before u hu);
          settled_present = λ u hu. ⊎_elim (λ here. subst (λ x. present t.levels x ≡ true) (sym here) here_present) (λ old. apart.settled_present u old) (done_before u hu);
          waiting_present = λ u k e. apart.waiting_present u k (waits_before u k e).0;
        }

  apart_picking : (turns : ℕ) (xs : List (Slot ℕ)) → Apart xs → Apart (picking turns n t.rows xs)
  unfolding picking
  apart_picking zero xs apart = apart
  apart_picking (suc turns) xs apart = by_least (least_from leb 0 xs) (found leb by_number 0 xs) (λ ys ok. apart_picking turns ys ok)
    where
      by_least : (r : Option (ℕ × ℕ)) → Found leb 0 xs r → ((ys : List (Slot ℕ)) → Apart ys → Apart (picking turns n t.rows ys)) → Apart (by_some r xs (λ p. picking turns n t.rows (bar_next n (row t.rows p.0) (settling p xs))))
      by_least None f on = apart
      by_least (Some p) f on = on _ (apart_next xs apart p.0 p.1 f)

  -- a picked station was settled
  picked_done : (u : ℕ) → is_picked (picks n t) u ≡ true → done_at (picking n n t.rows (candidates n t)) u ≡ true
  picked_done u e =
      ⊎_elim (λ below. sym (get_or_tab n _ u false below) ∙ e) (λ above. absurd (both_ways _ (get_or_tab_past n _ u false above) e)) (cases_lt u n)

  pub picks_apart : (u v : ℕ) (a : W) → is_picked (picks n t) u ≡ true → is_picked (picks n t) v ≡ true → look t.rows u v ≡ Some a → ⊥
  picks_apart u v a hu hv e = (apart_picking n (candidates n t) apart_start).settled_apart u v a (picked_done u hu) (picked_done v hv) e

  pub picks_present : (u : ℕ) → is_picked (picks n t) u ≡ true → present t.levels u ≡ true
  picks_present u hu = (apart_picking n (candidates n t) apart_start).settled_present u (picked_done u hu)
