-- A climb gives good levels. Assumes nothing.
use Rattle.std.proofs.Common.{◌≡◌, ℕ, zero, suc, ◌<◌, ◌≤◌, Bool, true, false, cond, not, ◌&&◌, ◌||◌, eqb, ◌≢◌, ◌⊎◌, List, [], ◌∷◌, ◌++◌, get_or, Some, None, Option, sym, refl, ap, ◌∙◌, subst, ap₂, inl, inr, ⊎_elim, arith}
use Rattle.std.proofs.lemmas.List.{get_or-replicate}
use Rattle.std.proofs.lemmas.Bool.{cases_Bool, cases_eq, cases_lt, cond-false, cond-true, eq-eqb, eqb-true, le-leb, ne_eqb}
use Rattle.measure.specs.Meaning.{Meaning}
use Rattle.model.specs.Levels.{Climbed, Stage, climb, demand, final_levels, from_below, ground, is_picked, join_some, level_at, look, next_cell, picks, present, raised, row, stage_by, stations_left, too_little, size}
use Rattle.model.specs.Lists.{choose, stretch, tab}
use Rattle.model.specs.Networks.{Net}
use Rattle.theory.specs.Building.{PlainNetwork, level_net}
use Rattle.theory.specs.Laws.{NoWorse, TravelLaws}
use Rattle.theory.proofs.Nexts.{SomeWithin, cell_has, cell_is, join_is, way_direct, way_over}
use Rattle.theory.proofs.Picked.{SoundStage, picks_apart, picks_present}
use Rattle.theory.proofs.Tabs.{get_or_tab, get_or_tab_past, look_grid, look_past, none_some, some_same}

-- rows that agree at every station are one row
pub tab_same : {A : Type 0} (n : ℕ) (f g : ℕ → A) → ((u : ℕ) → u < n → f u ≡ g u) → tab n f ≡ tab n g
unfolding stretch
tab_same zero f g same = refl
tab_same (suc n) f g same = ap₂ (λ xs x. xs ++ (x ∷ [])) (tab_same n f g (λ u h. same u (omega arith))) (same n (omega arith))

module _ {W : Type 0} (m : Meaning W) (laws : TravelLaws m) (comm : (a b : W) → m.join a b ≡ m.join b a) (n : ℕ) where
  -- the next stage is sound where this one is
  module _ (level : ℕ) (picked : List Bool) (t : Stage W) (sound : SoundStage n t) where
    level_next : (u : ℕ) → u < n → level_at (raised m n (suc level) picked t).levels u ≡ cond (is_picked picked u) (suc level) (level_at t.levels u)
    level_next u hu = get_or_tab n _ u 0 hu

    on_next : (u : ℕ) → u < n → present (raised m n (suc level) picked t).levels u ≡ true → (is_picked picked u ≡ false) × (present t.levels u ≡ true)
    on_next u hu e = by_test (is_picked picked u) refl (sym (ap (λ l. eqb l 0) (level_next u hu)) ∙ e)
      where
        by_test : (b : Bool) → is_picked picked u ≡ b → eqb (cond (is_picked picked u) (suc level) (level_at t.levels u)) 0 ≡ true → (is_picked picked u ≡ false) × (present t.levels u ≡ true)
        by_test true is h = absurd (let z : suc level ≡ 0 = eqb-true (suc level) 0 (sym (ap (λ b. eqb (cond b (suc level) (level_at t.levels u)) 0) is) ∙ h) in omega arith)
        by_test false is h = (is, sym (ap (λ b. eqb (cond b (suc level) (level_at t.levels u)) 0) is) ∙ h)

    next_on : (u : ℕ) → u < n → is_picked picked u ≡ false → present t.levels u ≡ true → present (raised m n (suc level) picked t).levels u ≡ true
    next_on u hu free on = ap (λ l. eqb l 0) (level_next u hu ∙ ap (λ b. cond b (suc level) (level_at t.levels u)) free) ∙ on

    row_on : (u : ℕ) → u < n → is_picked picked u ≡ false → present t.levels u ≡ true → row (raised m n (suc level) picked t).rows u ≡ tab n (next_cell m n picked t.rows u)
    row_on u hu free on =
        get_or_tab n _ u [] hu ∙ ap₂ (λ a b. choose (a && not b) (λ _. tab n (next_cell m n picked t.rows u)) (λ _. row t.rows u)) on free

    cell_next : (u w : ℕ) (a : W) → present (raised m n (suc level) picked t).levels u ≡ true → look (raised m n (suc level) picked t).rows u w ≡ Some a → (u < n) × (w < n) × (is_picked picked u ≡ false) × (present t.levels u ≡ true) × (next_cell m n picked t.rows u w ≡ Some a)
    cell_next u w a on e =
        let hu : u < n = ⊎_elim (λ h. h) (λ above. absurd (none_some a (sym (ap (λ r. get_or r w None) (get_or_tab_past n _ u [] above)) ∙ e))) (cases_lt u n) in
        let (free, was) = on_next u hu on in
        let is = ap (λ r. get_or r w None) (row_on u hu free was) in
        let hw : w < n = ⊎_elim (λ h. h) (λ above. absurd (none_some a (sym (is ∙ get_or_tab_past n _ w None above) ∙ e))) (cases_lt w n) in
        (hu, hw, free, was, sym (is ∙ get_or_tab n _ w None hw) ∙ e)

    next_look : (u w : ℕ) → u < n → w < n → is_picked picked u ≡ false → present t.levels u ≡ true → look (raised m n (suc level) picked t).rows u w ≡ next_cell m n picked t.rows u w
    next_look u w hu hw free on = ap (λ r. get_or r w None) (row_on u hu free on) ∙ get_or_tab n _ w None hw

    -- the other end of a section of the next stage goes on too
    end_on : (u w : ℕ) (a : W) → present t.levels u ≡ true → next_cell m n picked t.rows u w ≡ Some a → (is_picked picked w ≡ false) × (u ≢ w) × (present t.levels w ≡ true)
    end_on u w a on e =
        let (free, apart, way) = cell_is m laws n picked t.rows u w a e in (
          free,
          apart,
          ⊎_elim (λ direct. (sound.inside u w a on direct).2)
              (λ (v, (pick, both)). let (b, (c, (first, second, joined))) = join_is m laws _ _ a both in (sound.inside v w c (sound.inside u v b on first).2 second).2) way,
        )

    cell_back : (u w : ℕ) (a : W) → u < n → w < n → is_picked picked u ≡ false → present t.levels u ≡ true → next_cell m n picked t.rows u w ≡ Some a → SomeWithin m (next_cell m n picked t.rows w u) a
    cell_back u w a hu hw free on e =
        let (free', apart, way) = cell_is m laws n picked t.rows u w a e in
        ⊎_elim
        (λ direct. cell_has m laws n picked t.rows w u u a free (λ same. apart (sym same)) hu (way_direct m laws n picked t.rows w u ∙ sound.back u w a on direct))
        (λ (v, (pick, both)).
        let (b, (c, (first, second, joined))) = join_is m laws _ _ a both in
        let (_, hv, on_v, differ) = sound.inside u v b on first in
        subst (SomeWithin m (next_cell m n picked t.rows w u)) (comm c b ∙ sym joined)
        (cell_has m laws n picked t.rows w u v (m.join c b) free (λ same. apart (sym same)) hv
        (way_over m laws n picked t.rows w v u (λ same. differ (sym same)) pick ∙ ap₂ (join_some m) (sound.back v w c on_v second) (sound.back u v b on first))))
        way

    pub raised_sound : SoundStage n (raised m n (suc level) picked t)
    raised_sound =
        record {
          inside = λ u w a on e.
              let (hu, hw, free, was, cell) = cell_next u w a on e in
              let (free', apart, on') = end_on u w a was cell in
              (hu, hw, next_on w hw free' on', apart);
          back = λ u w a on e.
              let (hu, hw, free, was, cell) = cell_next u w a on e in
              let (free', apart, on') = end_on u w a was cell in
              let (c, is, less) = cell_back u w a hu hw free was cell in
              let (d, is', less') = cell_back w u c hw hu free' on' is in
              let same : d ≡ a = some_same d a (sym is' ∙ cell) in
              next_look w u hw hu free' on' ∙ is ∙ ap Some (laws.antisym c a less (subst (λ x. NoWorse m x c) same less'));
        }

  module _ (G : Net W) (plain : PlainNetwork n G) where
    pub ground_sound : SoundStage n (ground n G)
    ground_sound =
        record {
          inside = λ u w a on e.
              let (hu, hw, is) = section u w a e in
              (hu, hw, ap (λ l. eqb l 0) (get_or-replicate n w 0 0 hw), λ same. none_some a (sym (plain.no_loop u) ∙ ap (G u) same ∙ is));
          back = λ u w a on e. let (hu, hw, is) = section u w a e in look_grid n G w u hw hu ∙ plain.both_ways w u ∙ is;
        }
      where
        section : (u w : ℕ) (a : W) → look (ground n G).rows u w ≡ Some a → (u < n) × (w < n) × (G u w ≡ Some a)
        section u w a e =
            let hu : u < n = ⊎_elim (λ h. h) (λ above. absurd (none_some a (sym (ap (λ r. get_or r w None) (get_or_tab_past n _ u [] above)) ∙ e))) (cases_lt u n) in
            let hw : w < n = ⊎_elim (λ h. h) (λ above. absurd (none_some a (sym (look_past n G u w hu above) ∙ e))) (cases_lt w n) in
            (hu, hw, sym (look_grid n G u w hu hw) ∙ e)

    -- what a climb from a stage comes to, where so many levels are picked already
    pub record GoesWell (i : ℕ) (t : Stage W) (c : Climbed W) : Type 0 where
      pub upward : suc i ≤ c.top
      pub kept : (u : ℕ) → u < n → level_at t.levels u ≢ 0 → level_at (final_levels n c) u ≡ level_at t.levels u
      pub later : (u : ℕ) → u < n → level_at t.levels u ≡ 0 → suc i ≤ level_at (final_levels n c) u
      pub at_most : (u : ℕ) → u < n → level_at (final_levels n c) u ≤ c.top
      pub same_end : stage_by m n (final_levels n c) G i ≡ t → (j : ℕ) × ((c.top ≡ suc j) × (stage_by m n (final_levels n c) G j ≡ c.stage))
      pub independent : stage_by m n (final_levels n c) G i ≡ t → (l u v : ℕ) (a : W) → suc i ≤ l → l < c.top → level_at (final_levels n c) u ≡ l → level_at (final_levels n c) v ≡ l → level_net m n (final_levels n c) G l u v ≡ Some a → ⊥

    -- where a climb ends
    ends_here : (i : ℕ) (t : Stage W) (ds : List ℕ) → ((u : ℕ) → u < n → level_at t.levels u ≤ i) → GoesWell i t (record { top = suc i; stage = t; demands = ds })
    ends_here i t ds low =
        record {
          upward = omega arith;
          kept = λ u hu other. final u hu ∙ cond-false _ _ _ (ne_eqb _ 0 other);
          later = λ u hu none. subst (λ l. suc i ≤ l) (sym (final u hu ∙ cond-true _ _ _ (eq-eqb _ 0 none))) (omega arith);
          at_most = λ u hu. subst (λ l. l ≤ suc i) (sym (final u hu)) (bounded (present t.levels u) (low u hu));
          same_end = λ e. (i, (refl, e));
          independent = λ e l u v a low' high hu hv h. absurd (omega arith);
        }
      where
        final : (u : ℕ) → u < n → level_at (final_levels n (record { top = suc i; stage = t; demands = ds })) u ≡ cond (present t.levels u) (suc i) (level_at t.levels u)
        final u hu = get_or_tab n _ u 0 hu

        bounded : (b : Bool) {l : ℕ} → l ≤ i → cond b (suc i) l ≤ suc i
        bounded true h = omega arith
        bounded false h = omega arith

    -- a level more
    module _ (i : ℕ) (t : Stage W) (sound : SoundStage n t) (low : (u : ℕ) → u < n → level_at t.levels u ≤ i) (c : Climbed W) (above : GoesWell (suc i) (raised m n (suc i) (picks n t) t) c) where
      next_level_at : (u : ℕ) → u < n → level_at (raised m n (suc i) (picks n t) t).levels u ≡ cond (is_picked (picks n t) u) (suc i) (level_at t.levels u)
      next_level_at u hu = level_next i (picks n t) t sound u hu

      picked_level : (u : ℕ) → u < n → is_picked (picks n t) u ≡ true → level_at (final_levels n c) u ≡ suc i
      picked_level u hu is =
          let now = next_level_at u hu ∙ cond-true _ _ _ is in
          above.kept u hu (λ none. let z : suc i ≡ 0 = sym now ∙ none in omega arith) ∙ now

      other_level : (u : ℕ) → u < n → is_picked (picks n t) u ≡ false → ((level_at t.levels u ≡ 0) × (suc (suc i) ≤ level_at (final_levels n c) u)) ⊎ ((level_at t.levels u ≢ 0) × (level_at (final_levels n c) u ≡ level_at t.levels u))
      other_level u hu free =
          let now = next_level_at u hu ∙ cond-false _ _ _ free in
          ⊎_elim (λ none. inl (none, above.later u hu (now ∙ none))) (λ some. inr (some, above.kept u hu (λ none. some (sym now ∙ none)) ∙ now)) (cases_eq (level_at t.levels u) 0)

      -- picked are just the stations whose level this is
      picks_are : (u : ℕ) → u < n → is_picked (picks n t) u ≡ eqb (level_at (final_levels n c) u) (suc i)
      picks_are u hu = by_test (is_picked (picks n t) u) refl
        where
          by_test : (b : Bool) → is_picked (picks n t) u ≡ b → is_picked (picks n t) u ≡ eqb (level_at (final_levels n c) u) (suc i)
          by_test true is = is ∙ sym (eq-eqb _ (suc i) (picked_level u hu is))
          by_test false is =
              is ∙ sym (ne_eqb _ (suc i) (λ same. ⊎_elim (λ (none, up). omega arith) (λ (some, kept). let h = low u hu in omega arith) (other_level u hu is)))

      same_picks : tab n (λ u. eqb (level_at (final_levels n c) u) (suc i)) ≡ picks n t
      same_picks = tab_same n _ _ (λ u hu. sym (picks_are u hu) ∙ get_or_tab n _ u false hu)

      same_next : stage_by m n (final_levels n c) G i ≡ t → stage_by m n (final_levels n c) G (suc i) ≡ raised m n (suc i) (picks n t) t
      unfolding stage_by
      same_next e = ap₂ (raised m n (suc i)) same_picks e

      below_n : (u : ℕ) → level_at (final_levels n c) u ≡ suc i → u < n
      below_n u is = ⊎_elim (λ h. h) (λ beyond. absurd (let none : level_at (final_levels n c) u ≡ 0 = get_or_tab_past n _ u 0 beyond in omega arith)) (cases_lt u n)

      here_independent : stage_by m n (final_levels n c) G i ≡ t → (u v : ℕ) (a : W) → level_at (final_levels n c) u ≡ suc i → level_at (final_levels n c) v ≡ suc i → level_net m n (final_levels n c) G (suc i) u v ≡ Some a → ⊥
      here_independent e u v a hu hv h =
          let section : look t.rows u v ≡ Some a = sym (cond-true _ _ _ (le-leb (suc i) _ (omega arith)) ∙ ap (λ (x : Stage W). look x.rows u v) e) ∙ h in
          picks_apart n t sound u v a (picks_are u (below_n u hu) ∙ eq-eqb _ (suc i) hu) (picks_are v (below_n v hv) ∙ eq-eqb _ (suc i) hv) section

      one_more : (d : ℕ) → GoesWell i t (record { top = c.top; stage = c.stage; demands = d ∷ c.demands })
      one_more d =
          record {
            upward = let h = above.upward in omega arith;
            kept = λ u hu some. ⊎_elim
                (λ pick. absurd (some (eqb-true _ 0 (picks_present n t sound u pick))))
                (λ free. ⊎_elim (λ (none, up). absurd (some none)) (λ (_, same). same) (other_level u hu free)) (cases_Bool (is_picked (picks n t) u));
            later = λ u hu none. ⊎_elim
                (λ pick. subst (λ l. suc i ≤ l) (sym (picked_level u hu pick)) (omega arith))
                (λ free. ⊎_elim (λ (_, up). omega arith) (λ (some, _). absurd (some none)) (other_level u hu free)) (cases_Bool (is_picked (picks n t) u));
            at_most = above.at_most;
            same_end = λ e. above.same_end (same_next e);
            independent = λ e l u v a up down hu hv h. ⊎_elim
                (λ here. here_independent e u v a (hu ∙ here) (hv ∙ here) (subst (λ k. level_net m n (final_levels n c) G k u v ≡ Some a) here h))
                (λ other. above.independent (same_next e) l u v a (omega arith) down hu hv h) (cases_eq l (suc i));
          }

    pub goes_well : (threshold left i : ℕ) (before : Option ℕ) (t : Stage W) → SoundStage n t → ((u : ℕ) → u < n → level_at t.levels u ≤ i) → GoesWell i t (climb m n threshold left (suc i) before t)
    unfolding climb
    goes_well threshold zero i before t sound low = ends_here i t _ low
    goes_well threshold (suc left) i before t sound low =
        by_test (eqb (stations_left n t) 0 || too_little threshold before (size n t))
        (goes_well threshold left (suc i) (Some (size n t)) (raised m n (suc i) (picks n t) t) (raised_sound i (picks n t) t sound)
        (λ u hu. subst (λ l. l ≤ suc i) (sym (level_next i (picks n t) t sound u hu)) (bounded (is_picked (picks n t) u) (low u hu))))
      where
        bounded : (b : Bool) {l : ℕ} → l ≤ i → cond b (suc i) l ≤ suc i
        bounded true h = omega arith
        bounded false h = omega arith

        by_test : (b : Bool) → GoesWell (suc i) (raised m n (suc i) (picks n t) t) (climb m n threshold left (suc (suc i)) (Some (size n t)) (raised m n (suc i) (picks n t) t)) → GoesWell i t (choose b (λ _. record { top = suc i; stage = t; demands = demand n t ∷ [] }) (λ _. from_below (demand n t) (climb m n threshold left (suc (suc i)) (Some (size n t)) (raised m n (suc i) (picks n t) t))))
        by_test true up = ends_here i t _ low
        by_test false up = one_more i t sound low _ up _
