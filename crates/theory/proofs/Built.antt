-- What is built over good levels stands on their networks. Assumes nothing.
use Rattle.std.proofs.Common.{◌≡◌, ℕ, zero, suc, ◌-◌, ◌<◌, ◌≤◌, eqb, leb, ◌≢◌, List, [], get_or, Some, None, Option, sym, refl, ap, ◌∙◌, subst, inl, inr, ⊎_elim, arith}
use mathlib.Core.Path.{fun_ext}
use Rattle.std.proofs.lemmas.Bool.{cases_eq, cases_lt, cond-false, cond-true, eq-eqb, eqb-true, le-leb, lt-leb}
use Rattle.std.proofs.lemmas.Option.{cond_some}
use Rattle.measure.specs.Meaning.{Lawful, Meaning}
use Rattle.model.specs.Levels.{Grid, level_at, look, next_cell, row, stage_by}
use Rattle.model.specs.Lists.{choose, tab}
use Rattle.model.specs.Networks.{Best, Net}
use Rattle.model.specs.Queries.{indexed_query}
use Rattle.model.specs.Tables.{built_by, descend, leg, legs_of, over_legs, own_entry, top_labels}
use Rattle.model.specs.declared.records.Leg.{Leg}
use Rattle.theory.specs.Building.{GoodLevels, LevelsAnswer, LevelsStand, PlainNetwork, QueriesAgree, level_net}
use Rattle.theory.specs.Indexed.{StandsOn}
use Rattle.theory.specs.Laws.{NoWorse, TravelLaws}
use Rattle.theory.specs.Sides.{LegsOf, Mem}
use Rattle.theory.specs.Towers.{InLabels, OutLabels, back}
use Rattle.theory.proofs.Asking.{indexed_is_right}
use Rattle.theory.proofs.Labelling.{above_kept, descend_past, label_look, label_past, over_has, over_is, over_own}
use Rattle.theory.proofs.PlainSearch.{plain_is_right}
use Rattle.theory.proofs.Standing.{is_net, joins, net_is, row_next, same_back, tower_stands}
use Rattle.theory.proofs.Tabs.{get_or_tab, get_or_tab_past, has_row, look_grid, look_past, none_some, row_is}
use Rattle.theory.proofs.Weighing.{best_unique, travel_laws}

module _ {W : Type 0} (m : Meaning W) (laws : TravelLaws m) (comm : (a b : W) → m.join a b ≡ m.join b a) (n j : ℕ) (levels : List ℕ) (G : Net W) (plain : PlainNetwork n G) (good : GoodLevels m n (suc j) levels G) where
  -- a picked station's row stays as it was
  row_stays : (i u : ℕ) → u < n → level_at levels u ≤ suc i → row (stage_by m n levels G (suc i)).rows u ≡ row (stage_by m n levels G i).rows u
  row_stays i u hu low =
      row_next m laws n (suc j) levels G plain good i u hu
      ∙ ap (λ b. choose b (λ _. tab n (next_cell m n (tab n (λ x. eqb (level_at levels x) (suc i))) (stage_by m n levels G i).rows u)) (λ _. row (stage_by m n levels G i).rows u)) (lt-leb _ _ (omega arith))

  row_frozen : (c i u : ℕ) → i ≤ c → u < n → level_at levels u ≡ suc i → row (stage_by m n levels G c).rows u ≡ row (stage_by m n levels G i).rows u
  row_frozen zero i u less hu level = ap (λ k. row (stage_by m n levels G k).rows u) (let same : 0 ≡ i = omega arith in same)
  row_frozen (suc c) i u less hu level =
      ⊎_elim (λ same. ap (λ k. row (stage_by m n levels G k).rows u) (sym same))
      (λ other. row_stays c u hu (omega arith) ∙ row_frozen c i u (omega arith) hu level) (cases_eq i (suc c))

  -- a station's own network has its final row
  own_net : (v u : ℕ) (a : W) → v < n → level_net m n levels G (level_at levels v) v u ≡ Some a → look (stage_by m n levels G j).rows v u ≡ Some a
  own_net v u a hv e = by_level (level_at levels v) refl e
    where
      by_level : (i : ℕ) → level_at levels v ≡ i → level_net m n levels G i v u ≡ Some a → look (stage_by m n levels G j).rows v u ≡ Some a
      by_level zero is h = absurd (none_some a h)
      by_level (suc i) is h =
          let high = good.high v hv in
          ap (λ r. get_or r u None) (row_frozen j i v (omega arith) hv is) ∙ (net_is m laws n (suc j) levels G plain good i v u a h).1

  net_own : (v u : ℕ) (a : W) → v < n → look (stage_by m n levels G j).rows v u ≡ Some a → level_net m n levels G (level_at levels v) v u ≡ Some a
  net_own v u a hv e = by_level (level_at levels v) refl
    where
      by_level : (i : ℕ) → level_at levels v ≡ i → level_net m n levels G i v u ≡ Some a
      by_level zero is = absurd (let low = good.low v hv in omega arith)
      by_level (suc i) is =
          let high = good.high v hv in
          is_net m laws n (suc j) levels G plain good i v u a (omega arith) (sym (ap (λ r. get_or r u None) (row_frozen j i v (omega arith) hv is)) ∙ e)

  -- a station's legs lead to higher levels, below the top
  legs_up : (v : ℕ) (l : Leg W) → v < n → level_at levels v < suc j → Mem l (legs_of (stage_by m n levels G j).rows v) → (l.to < n) × (level_at levels v < level_at levels l.to)
  legs_up v l hv below h =
      let (i, (a, (is, there))) = row_is (leg v) (row (stage_by m n levels G j).rows v) l h in
      let to : l.to ≡ i = ap (λ (x : Leg W). x.to) is in
      let section = net_own v i a hv there in
      let (inside_v, inside_i) = (tower_stands m laws n (suc j) levels G plain good).inside (level_at levels v) v i a (good.low v hv) (good.high v hv) section in
      let other : level_at levels i ≢ level_at levels v = λ same. good.independent (level_at levels v) v i a below refl same section in
      (subst (λ k. k < n) (sym to) (below_n i inside_i.0), subst (λ k. level_at levels v < level_at levels k) (sym to) (let up = inside_i.0 in omega arith))
    where
      below_n : (i : ℕ) → level_at levels v ≤ level_at levels i → i < n
      below_n i up = ⊎_elim (λ h. h) (λ above. absurd (let none = good.beyond i above in let low = good.low v hv in omega arith)) (cases_lt i n)

  abbrev final : Grid W
  final = descend m n levels (stage_by m n levels G j).rows j (top_labels m n levels (suc j))

  station_in : (v : ℕ) → 1 ≤ level_at levels v → v < n
  station_in v low = ⊎_elim (λ h. h) (λ above. absurd (let none = good.beyond v above in omega arith)) (cases_lt v n)

  -- the label of a residual station, and of any other
  top_row : (v : ℕ) → v < n → level_at levels v ≡ suc j → row final v ≡ tab n (own_entry m v)
  top_row v hv level =
      above_kept m laws n (suc j) levels (stage_by m n levels G j).rows legs_up j (top_labels m n levels (suc j)) v hv (omega arith)
      ∙ get_or_tab n _ v [] hv ∙ cond-true _ _ _ (eq-eqb _ (suc j) level)

  hub_below : (v w : ℕ) (d : W) → look final v w ≡ Some d → w < n
  hub_below v w d e =
      ⊎_elim (λ h. h)
      (λ above. absurd (none_some d (sym (nothing above) ∙ e))) (cases_lt w n)
    where
      nothing : n ≤ w → look final v w ≡ None
      nothing above = ⊎_elim
          (λ hv. ⊎_elim
          (λ level. ap (λ r. get_or r w None) (top_row v hv level) ∙ get_or_tab_past n (own_entry m v) w None above)
          (λ other. let high = good.high v hv in label_past m laws n (suc j) levels (stage_by m n levels G j).rows legs_up j (top_labels m n levels (suc j)) v w hv (omega arith) (good.low v hv) (omega arith) above)
          (cases_eq (level_at levels v) (suc j)))
          (λ beyond. ap (λ r. get_or r w None) (no_row beyond)) (cases_lt v n)
        where
          no_row : n ≤ v → row final v ≡ []
          no_row beyond = descend_past m laws n (suc j) levels (stage_by m n levels G j).rows legs_up j (top_labels m n levels (suc j)) v beyond (get_or_tab_past n _ v [] beyond)

  own_is : (v w : ℕ) (d : W) → own_entry m v w ≡ Some d → (v ≡ w) × (d ≡ m.free)
  own_is v w d e = let (here, free) = cond_some (eqb v w) m.free d e in (eqb-true v w here, sym free)

  below_look : (v w : ℕ) → v < n → level_at levels v < suc j → w < n → look final v w ≡ over_legs m final w (own_entry m v w) (legs_of (stage_by m n levels G j).rows v)
  below_look v w hv below hw = label_look m laws n (suc j) levels (stage_by m n levels G j).rows legs_up j (top_labels m n levels (suc j)) v w hv below (good.low v hv) (omega arith) hw

  out_stands : OutLabels m (suc j) (level_at levels) (level_net m n levels G) (look final)
  out_stands =
      record {
        own = λ v inside.
            let hv = station_in v inside.0 in
            ⊎_elim
            (λ level. ap (λ r. get_or r v None) (top_row v hv level) ∙ get_or_tab n (own_entry m v) v None hv ∙ cond-true _ _ _ (eq-eqb v v refl))
            (λ other. below_look v v hv (let high = inside.1 in omega arith) hv ∙ over_own m laws final v (legs_of (stage_by m n levels G j).rows v))
            (cases_eq (level_at levels v) (suc j));
        over = λ v u w a d low below e f.
            let hv = station_in v low in
            let (c, is, less) = over_has m laws final w (own_entry m v w) (legs_of (stage_by m n levels G j).rows v) (leg v u a) d (has_row (leg v) (row (stage_by m n levels G j).rows v) u a (own_net v u a hv e)) f in
            (c, below_look v w hv below (hub_below u w d f) ∙ is, less);
        made_of = λ v w d inside e.
            let hv = station_in v inside.0 in
            let hw = hub_below v w d e in
            ⊎_elim
            (λ level. inl (own_is v w d (sym (ap (λ r. get_or r w None) (top_row v hv level) ∙ get_or_tab n (own_entry m v) w None hw) ∙ e)))
            (λ other.
            let below : level_at levels v < suc j = let high = inside.1 in omega arith in
            ⊎_elim (λ own. inl (own_is v w d own))
            (λ (l, (f, (h, is, joined))).
            let (i, (a, (same, there))) = row_is (leg v) (row (stage_by m n levels G j).rows v) l h in
            let to : l.to ≡ i = ap (λ (x : Leg W). x.to) same in
            let weight : l.weight ≡ a = ap (λ (x : Leg W). x.weight) same in
            inr (record {
              below = below;
              to = i;
              leg = a;
              rest = f;
              is_leg = net_own v i a hv there;
              is_entry = subst (λ k. look final k w ≡ Some f) to is;
              joined = joined ∙ ap (λ x. m.join x f) weight;
            }))
            (over_is m laws final w (own_entry m v w) (legs_of (stage_by m n levels G j).rows v) d (sym (below_look v w hv below hw) ∙ e)))
            (cases_eq (level_at levels v) (suc j));
      }

  -- a station's own network the other way
  back_own : (v u : ℕ) (a : W) → level_at levels v ≤ suc j → level_net m n levels G (level_at levels v) u v ≡ Some a → level_net m n levels G (level_at levels v) v u ≡ Some a
  back_own v u a high e = by_level (level_at levels v) high e
    where
      by_level : (i : ℕ) → i ≤ suc j → level_net m n levels G i u v ≡ Some a → level_net m n levels G i v u ≡ Some a
      by_level zero less h = absurd (none_some a h)
      by_level (suc i) less h = same_back m laws n (suc j) levels G plain good comm i less u v a h

  back_to : (v u : ℕ) (a : W) → level_at levels v ≤ suc j → level_net m n levels G (level_at levels v) v u ≡ Some a → level_net m n levels G (level_at levels v) u v ≡ Some a
  back_to v u a high e = by_level (level_at levels v) high e
    where
      by_level : (i : ℕ) → i ≤ suc j → level_net m n levels G i v u ≡ Some a → level_net m n levels G i u v ≡ Some a
      by_level zero less h = absurd (none_some a h)
      by_level (suc i) less h = same_back m laws n (suc j) levels G plain good comm i less v u a h

  -- where joining commutes and sections go both ways, one label serves both directions
  in_stands : InLabels m (suc j) (level_at levels) (level_net m n levels G) (look final)
  in_stands =
      record {
        own = out_stands.own;
        over = λ v u w a d low below e f.
            let (c, is, less) = out_stands.over v u w a d low below (back_own v u a (omega arith) e) f in
            (c, is, subst (NoWorse m c) (comm a d) less);
        made_of = λ v w d inside e.
            ⊎_elim inl
            (λ l. inr (record {
              below = l.below;
              to = l.to;
              leg = l.leg;
              rest = l.rest;
              is_leg = back_to v l.to l.leg inside.1 l.is_leg;
              is_entry = l.is_entry;
              joined = l.joined ∙ comm l.leg l.rest;
            }))
            (out_stands.made_of v w d inside e);
      }

  residual_legs : (v : ℕ) → level_at levels v ≡ suc j → LegsOf n (level_net m n levels G (suc j)) v (legs_of (stage_by m n levels G j).rows v)
  residual_legs v level =
      record {
        sections = λ l h.
            let (i, (a, (same, there))) = row_is (leg v) (row (stage_by m n levels G j).rows v) l h in
            let to : l.to ≡ i = ap (λ (x : Leg W). x.to) same in
            let weight : l.weight ≡ a = ap (λ (x : Leg W). x.weight) same in
            let (hi, high, apart) = joins m laws n (suc j) levels G plain good j v i a (omega arith) there in
            (subst (λ k. k < n) (sym to) hi, ap (level_net m n levels G (suc j) v) to ∙ is_net m laws n (suc j) levels G plain good j v i a (omega arith) there ∙ ap Some (sym weight));
        all = λ u a e. has_row (leg v) (row (stage_by m n levels G j).rows v) u a (net_is m laws n (suc j) levels G plain good j v u a e).1;
      }

  residual_back : (v : ℕ) → level_at levels v ≡ suc j → LegsOf n (back (level_net m n levels G (suc j))) v (legs_of (stage_by m n levels G j).rows v)
  residual_back v level =
      let own = residual_legs v level in
      record {
        sections = λ l h. let (hl, e) = own.sections l h in (hl, same_back m laws n (suc j) levels G plain good comm j (omega arith) v l.to l.weight e);
        all = λ u a e. own.all u a (same_back m laws n (suc j) levels G plain good comm j (omega arith) u v a e);
      }

  stands : StandsOn m n (built_by m n (suc j) levels (stage_by m n levels G j).rows) (level_net m n levels G)
  stands =
      subst (λ x. StandsOn m n (record { top = suc j; levels = levels; rows = (stage_by m n levels G j).rows; labels = descend m n levels (stage_by m n levels G j).rows x (top_labels m n levels (suc j)) }) (level_net m n levels G))
      (let same : j ≡ suc j - 1 = omega arith in same)
      (record {
        some_level = omega arith;
        all_in = λ u hu. (good.low u hu, good.high u hu);
        tower = tower_stands m laws n (suc j) levels G plain good;
        out_labels = out_stands;
        in_labels = in_stands;
        hubs_below = hub_below;
        legs = residual_legs;
        legs_back = residual_back;
      })

  -- the lowest network is the network itself
  lowest : (u v : ℕ) → level_net m n levels G 1 u v ≡ G u v
  unfolding stage_by
  lowest u v =
      ⊎_elim
      (λ hu. cond-true _ _ _ (le-leb 1 _ (good.low u hu))
      ∙ ⊎_elim (λ hv. look_grid n G u v hu hv) (λ beyond. look_past n G u v hu beyond ∙ sym (nothing (λ a e. omega (arith, (plain.bounded u v a e).1)))) (cases_lt v n))
      (λ beyond. cond-false (leb 1 (level_at levels u)) _ _ (lt-leb 1 (level_at levels u) (let none = good.beyond u beyond in omega arith)) ∙ sym (nothing (λ a e. omega (arith, (plain.bounded u v a e).0)))) (cases_lt u n)
    where
      nothing : ((a : W) → G u v ≡ Some a → ⊥) → G u v ≡ None
      nothing never = by_weight (G u v) refl
        where
          by_weight : (o : Option W) → G u v ≡ o → G u v ≡ None
          by_weight None e = e
          by_weight (Some a) e = absurd (never a e)

  answers : (s t : ℕ) → s < n → t < n → Best m G s t (indexed_query m n (built_by m n (suc j) levels (stage_by m n levels G j).rows) s t).cost
  answers s t hs ht =
      subst (λ (N : Net W). Best m N s t (indexed_query m n (built_by m n (suc j) levels (stage_by m n levels G j).rows) s t).cost) (fun_ext (λ u. fun_ext (λ v. lowest u v)))
      (indexed_is_right m laws n (built_by m n (suc j) levels (stage_by m n levels G j).rows) (level_net m n levels G) stands s t hs ht)

pub levels_stand : {W : Type 0} (m : Meaning W) → Lawful m → LevelsStand m
levels_stand m lawful n j levels G plain good = stands m (travel_laws m lawful) lawful.comm n j levels G plain good

pub levels_answer : {W : Type 0} (m : Meaning W) → Lawful m → LevelsAnswer m
levels_answer m lawful n j levels G plain good s t hs ht = answers m (travel_laws m lawful) lawful.comm n j levels G plain good s t hs ht

pub queries_agree : {W : Type 0} (m : Meaning W) → Lawful m → QueriesAgree m
queries_agree m lawful n j levels G plain good s t hs ht =
    best_unique m (travel_laws m lawful) G s t _ _ (levels_answer m lawful n j levels G plain good s t hs ht) (plain_is_right m (travel_laws m lawful) n G plain.bounded s t hs ht)
