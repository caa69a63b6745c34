-- Every build answers right. Assumes nothing.
use Rattle.std.proofs.Common.{◌≡◌, ℕ, zero, suc, ◌-◌, ◌<◌, ◌≤◌, Bool, true, false, cond, ◌&&◌, eqb, ltb, List, [], ◌∷◌, Some, None, sym, refl, subst, subst₂, arith}
use Rattle.std.proofs.lemmas.List.{get_or-replicate}
use Rattle.std.proofs.lemmas.Bool.{and_parts, eqb-true, ltb-true}
use Rattle.measure.specs.Meaning.{Lawful, Meaning}
use Rattle.model.proofs.Ordering.{network_is_symmetric}
use Rattle.model.specs.Levels.{Stage, climbed, final_levels, ground, level_at, stage_by}
use Rattle.model.specs.Networks.{Best, Net}
use Rattle.model.specs.Queries.{indexed_query}
use Rattle.model.specs.Sections.{all_within, same_ends, weight_of}
use Rattle.model.specs.Tables.{built, built_by}
use Rattle.model.specs.declared.records.Section.{Section}
use Rattle.theory.specs.Building.{BuildsAnswerRight, GoodLevels, PlainNetwork, SectionsMakeANetwork, level_net}
use Rattle.theory.proofs.Built.{levels_answer}
use Rattle.theory.proofs.Climbs.{GoesWell, goes_well, ground_sound}
use Rattle.theory.proofs.PlainSearch.{plain_is_right}
use Rattle.theory.proofs.Tabs.{get_or_tab_past, none_some}
use Rattle.theory.proofs.Weighing.{best_unique, travel_laws}

-- the ends of a section that is found lie within
found_within : {W : Type 0} (n low high : ℕ) (ss : List (Section W)) (a : W) → all_within n ss ≡ true → weight_of low high ss ≡ Some a → (low < n) × (high < n)
found_within n low high [] a ok e = absurd (none_some a e)
found_within n low high (s ∷ ss) a ok e =
    let (here, rest) = and_parts (ltb s.low s.high && ltb s.high n) (all_within n ss) ok in
    by_ends (same_ends s.low s.high low high) refl here e (found_within n low high ss a rest)
  where
    by_ends : (b : Bool) → same_ends s.low s.high low high ≡ b → (ltb s.low s.high && ltb s.high n) ≡ true → cond b (Some s.weight) (weight_of low high ss) ≡ Some a → (weight_of low high ss ≡ Some a → (low < n) × (high < n)) → (low < n) × (high < n)
    by_ends true is ok' h later =
        let (rising, below) = and_parts (ltb s.low s.high) (ltb s.high n) ok' in
        let (first, second) = and_parts (eqb s.low low) (eqb s.high high) is in
        let p = ltb-true s.low s.high rising in
        let q = ltb-true s.high n below in
        let l = eqb-true s.low low first in
        let r = eqb-true s.high high second in
        (omega arith, omega arith)
    by_ends false is ok' h later = later h

pub sections_make_a_network : {W : Type 0} → SectionsMakeANetwork W
sections_make_a_network n ss ok =
    record {
      bounded = λ u v a e. by_order u v a (ltb u v) refl (ltb v u) refl e;
      both_ways = (network_is_symmetric ss).back;
      no_loop = (network_is_symmetric ss).no_loop;
    }
  where
    by_order : (u v : ℕ) (a : _) (b : Bool) → ltb u v ≡ b → (c : Bool) → ltb v u ≡ c → cond b (weight_of u v ss) (cond c (weight_of v u ss) None) ≡ Some a → (u < n) × (v < n)
    by_order u v a true is c is' h = found_within n u v ss a ok h
    by_order u v a false is true is' h = let (p, q) = found_within n v u ss a ok h in (q, p)
    by_order u v a false is false is' h = absurd (none_some a h)

module _ {W : Type 0} (m : Meaning W) (lawful : Lawful m) (n : ℕ) (G : Net W) (plain : PlainNetwork n G) (height threshold : ℕ) where
  well : GoesWell m (travel_laws m lawful) lawful.comm n G plain 0 (ground n G) (climbed m n G height threshold)
  well =
      goes_well m (travel_laws m lawful) lawful.comm n G plain threshold (height - 1) 0 None (ground n G) (ground_sound m (travel_laws m lawful) lawful.comm n G plain)
      (λ u hu. subst (λ l. l ≤ 0) (sym (get_or-replicate n u 0 0 hu)) (omega arith))

  starts : stage_by m n (final_levels n (climbed m n G height threshold)) G 0 ≡ ground n G
  unfolding stage_by
  starts = refl

  good : GoodLevels m n (climbed m n G height threshold).top (final_levels n (climbed m n G height threshold)) G
  good =
      record {
        some_level = well.upward;
        low = λ u hu. well.later u hu (get_or-replicate n u 0 0 hu);
        high = well.at_most;
        beyond = λ u beyond. get_or_tab_past n _ u 0 beyond;
        independent = independent;
      }
    where
      independent : (i u v : ℕ) (a : W) → i < (climbed m n G height threshold).top → level_at (final_levels n (climbed m n G height threshold)) u ≡ i → level_at (final_levels n (climbed m n G height threshold)) v ≡ i → level_net m n (final_levels n (climbed m n G height threshold)) G i u v ≡ Some a → ⊥
      independent zero u v a below hu hv e = none_some a e
      independent (suc i) u v a below hu hv e = well.independent starts (suc i) u v a (omega arith) below hu hv e

  answers : (s t : ℕ) → s < n → t < n → Best m G s t (indexed_query m n (built m n (climbed m n G height threshold)) s t).cost
  answers s t hs ht =
      let (j, (top, stage)) = well.same_end starts in
      subst₂ (λ k (x : Stage W). Best m G s t (indexed_query m n (built_by m n k (final_levels n (climbed m n G height threshold)) x.rows) s t).cost) (sym top) stage
      (levels_answer m lawful n j (final_levels n (climbed m n G height threshold)) G plain (subst (λ k. GoodLevels m n k (final_levels n (climbed m n G height threshold)) G) top good) s t hs ht)

pub builds_answer_right : {W : Type 0} (m : Meaning W) → Lawful m → BuildsAnswerRight m
builds_answer_right m lawful n G plain height threshold s t hs ht =
    let best = answers m lawful n G plain height threshold s t hs ht in
    record {
      best = best;
      agrees = best_unique m (travel_laws m lawful) G s t _ _ best (plain_is_right m (travel_laws m lawful) n G plain.bounded s t hs ht);
    }
