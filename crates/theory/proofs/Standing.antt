-- The networks of given levels, each above the one before. Assumes nothing.
use Rattle.std.proofs.Common.{◌≡◌, ℕ, zero, suc, ◌<◌, ◌≤◌, Bool, true, false, cond, not, ◌&&◌, eqb, leb, ◌≢◌, List, [], get_or, Some, None, sym, refl, ap, ◌∙◌, subst, ap₂, inl, inr, ⊎_elim, arith}
use Rattle.std.proofs.lemmas.List.{get_or-replicate}
use Rattle.std.proofs.lemmas.Bool.{both_ways, cases_lt, cond-true, eq-eqb, eqb-false, eqb-true, le-leb, leb-true, ne_eqb}
use Rattle.std.proofs.lemmas.Bool.Decides.{nat_tests}
use Rattle.measure.specs.Meaning.{Meaning}
use Rattle.model.specs.Levels.{by_way, is_picked, join_some, level_at, look, next_cell, present, row, stage_by}
use Rattle.model.specs.Lists.{choose, tab}
use Rattle.model.specs.Networks.{Net}
use Rattle.theory.specs.Ascent.{Next}
use Rattle.theory.specs.Building.{GoodLevels, PlainNetwork, level_net}
use Rattle.theory.specs.Laws.{NoWorse, TravelLaws}
use Rattle.theory.specs.Towers.{In, Tower, at_level}
use Rattle.theory.proofs.Nexts.{SomeWithin, cell_has, cell_is, join_is, way_direct, way_over}
use Rattle.theory.proofs.Tabs.{get_or_tab, get_or_tab_past, look_grid, look_past, none_some, some_same}

module _ {W : Type 0} (m : Meaning W) (laws : TravelLaws m) (n k : ℕ) (levels : List ℕ) (G : Net W) (plain : PlainNetwork n G) (good : GoodLevels m n k levels G) where
  picked_is : (j u : ℕ) → is_picked (tab n (λ x. eqb (level_at levels x) (suc j))) u ≡ true → (u < n) × (level_at levels u ≡ suc j)
  picked_is j u e =
      ⊎_elim (λ below. (below, eqb-true _ (suc j) (sym (get_or_tab n (λ x. eqb (level_at levels x) (suc j)) u false below) ∙ e)))
      (λ above. absurd (both_ways _ (get_or_tab_past n (λ x. eqb (level_at levels x) (suc j)) u false above) e)) (cases_lt u n)

  is_at : (j u : ℕ) → u < n → is_picked (tab n (λ x. eqb (level_at levels x) (suc j))) u ≡ eqb (level_at levels u) (suc j)
  is_at j u hu = get_or_tab n (λ x. eqb (level_at levels x) (suc j)) u false hu

  -- a station has its level at a stage once that level was picked
  level_stage : (j u : ℕ) → u < n → level_at (stage_by m n levels G j).levels u ≡ cond (leb (level_at levels u) j) (level_at levels u) 0
  unfolding stage_by
  level_stage zero u hu = get_or-replicate n u 0 0 hu ∙ (let low = good.low u hu in grind (arith, nat_tests))
  level_stage (suc j) u hu =
      get_or_tab n (λ x. cond (is_picked (tab n (λ y. eqb (level_at levels y) (suc j))) x) (suc j) (level_at (stage_by m n levels G j).levels x)) u 0 hu
      ∙ ap₂ (λ b l. cond b (suc j) l) (is_at j u hu) (level_stage j u hu) ∙ grind (arith, nat_tests)

  goes_on : (j u : ℕ) → u < n → (present (stage_by m n levels G j).levels u && not (is_picked (tab n (λ x. eqb (level_at levels x) (suc j))) u)) ≡ leb (suc (suc j)) (level_at levels u)
  goes_on j u hu = ap₂ (λ l b. eqb l 0 && not b) (level_stage j u hu) (is_at j u hu) ∙ (let low = good.low u hu in grind (arith, nat_tests))

  -- a row of the next stage: that of the next network where the station goes on, else as before
  pub row_next : (j u : ℕ) → u < n → row (stage_by m n levels G (suc j)).rows u ≡ choose (leb (suc (suc j)) (level_at levels u)) (λ _. tab n (next_cell m n (tab n (λ x. eqb (level_at levels x) (suc j))) (stage_by m n levels G j).rows u)) (λ _. row (stage_by m n levels G j).rows u)
  unfolding stage_by
  row_next j u hu =
      get_or_tab n _ u [] hu
      ∙ ap (λ b. choose b (λ _. tab n (next_cell m n (tab n (λ x. eqb (level_at levels x) (suc j))) (stage_by m n levels G j).rows u)) (λ _. row (stage_by m n levels G j).rows u)) (goes_on j u hu)

  look_above : (j u w : ℕ) → u < n → suc (suc j) ≤ level_at levels u → w < n → look (stage_by m n levels G (suc j)).rows u w ≡ next_cell m n (tab n (λ x. eqb (level_at levels x) (suc j))) (stage_by m n levels G j).rows u w
  look_above j u w hu high hw =
      ap (λ r. get_or r w None) (row_next j u hu ∙ ap (λ b. choose b (λ _. tab n (next_cell m n (tab n (λ x. eqb (level_at levels x) (suc j))) (stage_by m n levels G j).rows u)) (λ _. row (stage_by m n levels G j).rows u)) (le-leb _ _ high))
      ∙ get_or_tab n _ w None hw

  look_above_past : (j u w : ℕ) → u < n → suc (suc j) ≤ level_at levels u → n ≤ w → look (stage_by m n levels G (suc j)).rows u w ≡ None
  look_above_past j u w hu high hw =
      ap (λ r. get_or r w None) (row_next j u hu ∙ ap (λ b. choose b (λ _. tab n (next_cell m n (tab n (λ x. eqb (level_at levels x) (suc j))) (stage_by m n levels G j).rows u)) (λ _. row (stage_by m n levels G j).rows u)) (le-leb _ _ high))
      ∙ get_or_tab_past n _ w None hw

  -- no stage has rows beyond its stations
  rows_past : (j u w : ℕ) → n ≤ u → look (stage_by m n levels G j).rows u w ≡ None
  unfolding stage_by
  rows_past zero u w hu = ap (λ r. get_or r w None) (get_or_tab_past n _ u [] hu)
  rows_past (suc j) u w hu = ap (λ r. get_or r w None) (get_or_tab_past n _ u [] hu)

  pub row_below : (j u w : ℕ) (a : W) → look (stage_by m n levels G j).rows u w ≡ Some a → u < n
  row_below j u w a e = ⊎_elim (λ h. h) (λ above. absurd (none_some a (sym (rows_past j u w above) ∙ e))) (cases_lt u n)

  -- a stage's sections between stations that go on join different ones
  pub joins : (j u w : ℕ) (a : W) → suc j ≤ level_at levels u → look (stage_by m n levels G j).rows u w ≡ Some a → (w < n) × (suc j ≤ level_at levels w) × (u ≢ w)
  unfolding stage_by
  joins zero u w a high e =
      let hu = row_below zero u w a e in
      let hw : w < n = ⊎_elim (λ h. h) (λ above. absurd (none_some a (sym (look_past n G u w hu above) ∙ e))) (cases_lt w n) in
      (hw, good.low w hw, λ same. none_some a (sym (plain.no_loop u) ∙ ap (G u) same ∙ sym (look_grid n G u w hu hw) ∙ e))
  joins (suc j) u w a high e =
      let hu = row_below (suc j) u w a e in
      let hw : w < n = ⊎_elim (λ h. h) (λ above. absurd (none_some a (sym (look_above_past j u w hu high above) ∙ e))) (cases_lt w n) in
      let (free, apart, way) = cell_is m laws n (tab n (λ x. eqb (level_at levels x) (suc j))) (stage_by m n levels G j).rows u w a (sym (look_above j u w hu high hw) ∙ e) in
      let other = eqb-false _ (suc j) (sym (is_at j w hw) ∙ free) in
      let reached : suc j ≤ level_at levels w = ⊎_elim
      (λ direct. (joins j u w a (omega arith) direct).1)
      (λ (v, (pick, both)).
      let (b, (c, (first, second, joined))) = join_is m laws _ _ a both in
      let level = (picked_is j v pick).1 in
      (joins j v w c (omega arith) second).1) way in
      (hw, omega arith, apart)

  -- a section of a level's network, and what makes one
  pub net_is : (j u w : ℕ) (a : W) → level_net m n levels G (suc j) u w ≡ Some a → (suc j ≤ level_at levels u) × (look (stage_by m n levels G j).rows u w ≡ Some a)
  net_is j u w a e = by_level (leb (suc j) (level_at levels u)) refl e
    where
      by_level : (b : Bool) → leb (suc j) (level_at levels u) ≡ b → cond b (look (stage_by m n levels G j).rows u w) None ≡ Some a → (suc j ≤ level_at levels u) × (look (stage_by m n levels G j).rows u w ≡ Some a)
      by_level true is h = (leb-true _ _ is, h)
      by_level false is h = absurd (none_some a h)

  pub is_net : (j u w : ℕ) (a : W) → suc j ≤ level_at levels u → look (stage_by m n levels G j).rows u w ≡ Some a → level_net m n levels G (suc j) u w ≡ Some a
  is_net j u w a high e = cond-true _ _ _ (le-leb _ _ high) ∙ e

  -- a network of a level joins stations that are in it
  pub inside_level : (j u w : ℕ) (a : W) → suc j ≤ k → level_net m n levels G (suc j) u w ≡ Some a → In (level_at levels) k (suc j) u × In (level_at levels) k (suc j) w
  inside_level j u w a below e =
      let (high, is) = net_is j u w a e in
      let hu = row_below j u w a is in
      let (hw, high', apart) = joins j u w a high is in
      ((high, good.high u hu), (high', good.high w hw))

  -- a station that is not of a level but in its network goes on
  unpicked_on : (j u : ℕ) → at_level (level_at levels) (suc j) u ≡ false → suc j ≤ level_at levels u → suc (suc j) ≤ level_at levels u
  unpicked_on j u free high = let other = eqb-false (level_at levels u) (suc j) free in omega arith

  -- a cell of the next stage as a section of the next level's network
  above_has : (j u w v : ℕ) (a : W) → at_level (level_at levels) (suc j) u ≡ false → suc j ≤ level_at levels u → u < n → at_level (level_at levels) (suc j) w ≡ false → w < n → u ≢ w → v < n
      → by_way m (tab n (λ x. eqb (level_at levels x) (suc j))) (stage_by m n levels G j).rows u w v ≡ Some a
      → (c : W) × (level_net m n levels G (suc (suc j)) u w ≡ Some c) × NoWorse m c a
  above_has j u w v a free high hu free' hw apart hv way =
      let on = unpicked_on j u free high in
      let (c, is, less) = cell_has m laws n (tab n (λ x. eqb (level_at levels x) (suc j))) (stage_by m n levels G j).rows u w v a (is_at j w hw ∙ free') apart hv way in
      (c, is_net (suc j) u w c on (look_above j u w hu on hw ∙ is), less)

  pub next_level : (j : ℕ) → suc j < k → Next m (at_level (level_at levels) (suc j)) (level_net m n levels G (suc j)) (level_net m n levels G (suc (suc j)))
  next_level j below =
      record {
        independent = λ u v a hu hv e. good.independent (suc j) u v a below (eqb-true _ (suc j) hu) (eqb-true _ (suc j) hv) e;
        unpicked = λ u w c e.
            let ((high, _), (high', _)) = inside_level (suc j) u w c (omega arith) e in
            (ne_eqb _ (suc j) (λ same. omega arith), ne_eqb _ (suc j) (λ same. omega arith));
        made_of = λ u w c e.
            let (high, is) = net_is (suc j) u w c e in
            let hu = row_below (suc j) u w c is in
            let (hw, high', apart) = joins (suc j) u w c high is in
            let (free, differ, way) = cell_is m laws n (tab n (λ x. eqb (level_at levels x) (suc j))) (stage_by m n levels G j).rows u w c (sym (look_above j u w hu high hw) ∙ is) in
            ⊎_elim (λ direct. inl (is_net j u w c (omega arith) direct))
            (λ (v, (pick, both)).
            let (a, (b, (first, second, joined))) = join_is m laws _ _ c both in
            let (hv, level) = picked_is j v pick in
            inr (record { by = v; first = a; second = b; chosen = eq-eqb _ (suc j) level; from = is_net j u v a (omega arith) first; to = is_net j v w b (omega arith) second; joined = joined }))
            way;
        keeps = λ u w a free free' apart e.
            let (high, is) = net_is j u w a e in
            let (hw, high', differ) = joins j u w a high is in
            above_has j u w w a free high (row_below j u w a is) free' hw apart hw (way_direct m laws n (tab n (λ x. eqb (level_at levels x) (suc j))) (stage_by m n levels G j).rows u w ∙ is);
        bridges = λ u v w a b free pick free' apart e f.
            let (high, is) = net_is j u v a e in
            let (hv, high_v, differ) = joins j u v a high is in
            let (level, is') = net_is j v w b f in
            let (hw, high_w, differ') = joins j v w b level is' in
            above_has j u w v (m.join a b) free high (row_below j u v a is) free' hw apart hv
            (way_over m laws n (tab n (λ x. eqb (level_at levels x) (suc j))) (stage_by m n levels G j).rows u v w differ' (is_at j v hv ∙ pick) ∙ ap₂ (join_some m) is is');
      }

  pub tower_stands : Tower m k (level_at levels) (level_net m n levels G)
  tower_stands = record { inside = inside; next = next }
    where
      inside : (i u v : ℕ) (a : W) → 1 ≤ i → i ≤ k → level_net m n levels G i u v ≡ Some a → In (level_at levels) k i u × In (level_at levels) k i v
      inside zero u v a low high e = absurd (none_some a e)
      inside (suc j) u v a low high e = inside_level j u v a high e

      next : (i : ℕ) → 1 ≤ i → i < k → Next m (at_level (level_at levels) i) (level_net m n levels G i) (level_net m n levels G (suc i))
      next zero low below = absurd (omega arith)
      next (suc j) low below = next_level j below

  -- where joining commutes, each level's network is the same both ways
  module _ (comm : (a b : W) → m.join a b ≡ m.join b a) where
    -- a section has one back that is no worse
    back_within : (j : ℕ) → suc j < k → ((u v : ℕ) (a : W) → level_net m n levels G (suc j) u v ≡ Some a → level_net m n levels G (suc j) v u ≡ Some a) → (u w : ℕ) (c : W) → level_net m n levels G (suc (suc j)) u w ≡ Some c → SomeWithin m (level_net m n levels G (suc (suc j)) w u) c
    back_within j below same u w c e =
        let next = next_level j below in
        let (free, free') = next.unpicked u w c e in
        let (high, is) = net_is (suc j) u w c e in
        let apart : w ≢ u = λ h. (joins (suc j) u w c high is).2 (sym h) in
        ⊎_elim (λ direct. next.keeps w u c free' free apart (same u w c direct))
        (λ o. subst (SomeWithin m (level_net m n levels G (suc (suc j)) w u)) (comm o.second o.first ∙ sym o.joined) (next.bridges w o.by u o.second o.first free' o.chosen free apart (same o.by w o.second o.to) (same u o.by o.first o.from)))
        (next.made_of u w c e)

    pub same_back : (j : ℕ) → suc j ≤ k → (u v : ℕ) (a : W) → level_net m n levels G (suc j) u v ≡ Some a → level_net m n levels G (suc j) v u ≡ Some a
    unfolding stage_by
    same_back zero below u v a e =
        let (high, is) = net_is zero u v a e in
        let hu = row_below zero u v a is in
        let (hv, high', apart) = joins zero u v a high is in
        is_net zero v u a high' (look_grid n G v u hv hu ∙ plain.both_ways v u ∙ sym (look_grid n G u v hu hv) ∙ is)
    same_back (suc j) below u v a e =
        let earlier = same_back j (omega arith) in
        let (c, is, less) = back_within j (omega arith) earlier u v a e in
        let (d, is', less') = back_within j (omega arith) earlier v u c is in
        let same : d ≡ a = some_same d a (sym is' ∙ e) in
        is ∙ ap Some (laws.antisym c a less (subst (λ x. NoWorse m x c) same less'))
