-- The labels of given levels. Assumes nothing.
use Rattle.std.proofs.Common.{◌≡◌, ℕ, zero, suc, ◌<◌, ◌≤◌, cond, eqb, ◌≢◌, ◌⊎◌, List, [], ◌∷◌, get_or, Some, None, Option, sym, refl, ap, ◌∙◌, subst, inl, inr, ⊎_elim, arith}
use Rattle.std.proofs.lemmas.Bool.{cases_eq, cond-false, cond-true, eq-eqb, ne_eqb}
use Rattle.measure.specs.Meaning.{Meaning}
use Rattle.model.specs.Levels.{Grid, better_some, level_at, look, row}
use Rattle.model.specs.Lists.{by_some, tab}
use Rattle.model.specs.Tables.{descend, label_row, legs_of, over_legs, own_entry}
use Rattle.model.specs.declared.records.Leg.{Leg}
use Rattle.theory.specs.Laws.{TravelLaws}
use Rattle.theory.specs.Sides.{Mem}
use Rattle.theory.proofs.Nexts.{SomeWithin, better_is, better_keeps, better_within}
use Rattle.theory.proofs.Tabs.{get_or_tab, get_or_tab_past, none_some, some_same}

module _ {W : Type 0} (m : Meaning W) (laws : TravelLaws m) where
  -- a leg joined to an entry of its other end
  abbrev onto : Grid W → ℕ → Leg W → Option W
  onto labels w l = by_some (look labels l.to w) None (λ d. Some (m.join l.weight d))

  onto_has : (o : Option W) (a d : W) → o ≡ Some d → by_some o None (λ x. Some (m.join a x)) ≡ Some (m.join a d)
  onto_has o a d e = ap (λ x. by_some x None (λ y. Some (m.join a y))) e

  onto_is : (o : Option W) (a c : W) → by_some o None (λ x. Some (m.join a x)) ≡ Some c → (d : W) × ((o ≡ Some d) × (c ≡ m.join a d))
  onto_is None a c e = absurd (none_some c e)
  onto_is (Some d) a c e = (d, (refl, sym (some_same (m.join a d) c e)))

  -- what is found so far is never made worse
  over_within : (labels : Grid W) (w : ℕ) (found : Option W) (legs : List (Leg W)) (a : W) → SomeWithin m found a → SomeWithin m (over_legs m labels w found legs) a
  unfolding over_legs
  over_within labels w found [] a h = h
  over_within labels w found (l ∷ ls) a h = over_within labels w (better_some m found (onto labels w l)) ls a (better_within m laws found (onto labels w l) a h)

  -- a leg's offer is taken up
  pub over_has : (labels : Grid W) (w : ℕ) (found : Option W) (legs : List (Leg W)) (l : Leg W) (d : W) → Mem l legs → look labels l.to w ≡ Some d → SomeWithin m (over_legs m labels w found legs) (m.join l.weight d)
  unfolding over_legs
  over_has labels w found [] l d h e = absurd h
  over_has labels w found (x ∷ ls) l d h e =
      ⊎_elim
      (λ same. over_within labels w (better_some m found (onto labels w x)) ls _ (better_keeps m laws found (onto labels w x) (m.join l.weight d) (inr (subst (λ y. by_some (look labels y.to w) None (λ f. Some (m.join y.weight f)) ≡ Some (m.join l.weight d)) same (onto_has (look labels l.to w) l.weight d e)))))
      (λ later. over_has labels w (better_some m found (onto labels w x)) ls l d later e) h

  -- and nothing else comes out
  pub over_is : (labels : Grid W) (w : ℕ) (found : Option W) (legs : List (Leg W)) (c : W) → over_legs m labels w found legs ≡ Some c → (found ≡ Some c) ⊎ ((l : Leg W) × ((d : W) × (Mem l legs × (look labels l.to w ≡ Some d) × (c ≡ m.join l.weight d))))
  unfolding over_legs
  over_is labels w found [] c e = inl e
  over_is labels w found (x ∷ ls) c e =
      ⊎_elim
      (λ here. ⊎_elim inl (λ new. let (d, (is, joined)) = onto_is (look labels x.to w) x.weight c new in inr (x, (d, (inl refl, is, joined)))) (better_is m laws found _ c here))
      (λ (l, (d, (h, is, joined))). inr (l, (d, (inr h, is, joined))))
      (over_is labels w (better_some m found (onto labels w x)) ls c e)

  pub over_own : (labels : Grid W) (v : ℕ) (legs : List (Leg W)) → over_legs m labels v (own_entry m v v) legs ≡ Some m.free
  over_own labels v legs =
      let (c, is, less) = over_within labels v (own_entry m v v) legs m.free (m.free, cond-true _ _ _ (eq-eqb v v refl), laws.free_best m.free) in
      is ∙ ap Some (laws.antisym c m.free less (laws.free_best c))

  -- it depends only on the labels of the legs' other ends
  over_same : (A B : Grid W) (w : ℕ) (found : Option W) (legs : List (Leg W)) → ((l : Leg W) → Mem l legs → row A l.to ≡ row B l.to) → over_legs m A w found legs ≡ over_legs m B w found legs
  unfolding over_legs
  over_same A B w found [] same = refl
  over_same A B w found (l ∷ ls) same =
      over_same A B w (better_some m found (onto A w l)) ls (λ x h. same x (inr h))
      ∙ ap (λ r. over_legs m B w (better_some m found (by_some (get_or r w None) None (λ d. Some (m.join l.weight d)))) ls) (same l (inl refl))

  module _ (n k : ℕ) (levels : List ℕ) (rows : Grid W) (higher : (v : ℕ) (l : Leg W) → v < n → level_at levels v < k → Mem l (legs_of rows v) → (l.to < n) × (level_at levels v < level_at levels l.to)) where
    -- one level down
    abbrev lowered : ℕ → Grid W → Grid W
    lowered level labels = tab n (λ v. cond (eqb (level_at levels v) (suc level)) (label_row m n rows labels v) (row labels v))

    kept_row : (level : ℕ) (labels : Grid W) (v : ℕ) → v < n → level_at levels v ≢ suc level → row (lowered level labels) v ≡ row labels v
    kept_row level labels v hv other = get_or_tab n _ v [] hv ∙ cond-false _ _ _ (ne_eqb _ (suc level) other)

    new_row : (level : ℕ) (labels : Grid W) (v : ℕ) → v < n → level_at levels v ≡ suc level → row (lowered level labels) v ≡ label_row m n rows labels v
    new_row level labels v hv same = get_or_tab n _ v [] hv ∙ cond-true _ _ _ (eq-eqb _ (suc level) same)

    -- levels above are left alone
    pub above_kept : (j : ℕ) (labels : Grid W) (v : ℕ) → v < n → j < level_at levels v → row (descend m n levels rows j labels) v ≡ row labels v
    unfolding descend
    above_kept zero labels v hv high = refl
    above_kept (suc j) labels v hv high = above_kept j (lowered j labels) v hv (omega arith) ∙ kept_row j labels v hv (λ same. omega arith)

    -- beyond the stations there are no labels
    pub descend_past : (j : ℕ) (labels : Grid W) (v : ℕ) → n ≤ v → row labels v ≡ [] → row (descend m n levels rows j labels) v ≡ []
    unfolding descend
    descend_past zero labels v beyond none = none
    descend_past (suc j) labels v beyond none = descend_past j (lowered j labels) v beyond (get_or_tab_past n _ v [] beyond)

    -- a station's label is made from the final labels of its legs' other ends
    pub label_made : (j : ℕ) (labels : Grid W) (v : ℕ) → v < n → level_at levels v < k → 1 ≤ level_at levels v → level_at levels v ≤ j → (X : Grid W) × ((row (descend m n levels rows j labels) v ≡ label_row m n rows X v) × ((l : Leg W) → Mem l (legs_of rows v) → row X l.to ≡ row (descend m n levels rows j labels) l.to))
    unfolding descend
    label_made zero labels v hv below low high = absurd (omega arith)
    label_made (suc j) labels v hv below low high =
        ⊎_elim
        (λ same. (
          labels,
          (
            above_kept j (lowered j labels) v hv (omega arith) ∙ new_row j labels v hv same,
            λ l h.
                let (hl, up) = higher v l hv below h in
                sym (above_kept j (lowered j labels) l.to hl (omega arith) ∙ kept_row j labels l.to hl (λ e. omega arith)),
          ),
        ))
        (λ other. label_made j (lowered j labels) v hv below low (omega arith))
        (cases_eq (level_at levels v) (suc j))

    -- so each weight of it is what its legs give
    pub label_look : (j : ℕ) (labels : Grid W) (v w : ℕ) → v < n → level_at levels v < k → 1 ≤ level_at levels v → level_at levels v ≤ j → w < n → look (descend m n levels rows j labels) v w ≡ over_legs m (descend m n levels rows j labels) w (own_entry m v w) (legs_of rows v)
    label_look j labels v w hv below low high hw =
        let (X, (is, same)) = label_made j labels v hv below low high in
        ap (λ r. get_or r w None) is ∙ get_or_tab n (λ x. over_legs m X x (own_entry m v x) (legs_of rows v)) w None hw ∙ over_same X (descend m n levels rows j labels) w (own_entry m v w) (legs_of rows v) same

    pub label_past : (j : ℕ) (labels : Grid W) (v w : ℕ) → v < n → level_at levels v < k → 1 ≤ level_at levels v → level_at levels v ≤ j → n ≤ w → look (descend m n levels rows j labels) v w ≡ None
    label_past j labels v w hv below low high hw =
        let (X, (is, same)) = label_made j labels v hv below low high in
        ap (λ r. get_or r w None) is ∙ get_or_tab_past n (λ x. over_legs m X x (own_entry m v x) (legs_of rows v)) w None hw
