-- The next network, as it is computed. Assumes nothing.
use Rattle.std.proofs.Common.{◌≡◌, ℕ, zero, suc, ◌<◌, Bool, true, false, cond, ◌||◌, eqb, ◌≢◌, ◌⊎◌, List, Some, None, Option, sym, refl, ap, ◌∙◌, subst, ap₂, inl, inr, ⊎_elim, arith}
use Rattle.std.proofs.lemmas.Bool.{both_ways, cases_lt, cond-false, cond-true, eq-eqb, ne_eqb}
use Rattle.measure.specs.Meaning.{Meaning, better_of}
use Rattle.model.specs.Levels.{Grid, best_below, better_some, by_way, is_picked, join_some, look, next_cell}
use Rattle.model.specs.Lists.{choose}
use Rattle.theory.specs.Laws.{NoWorse, TravelLaws}
use Rattle.theory.proofs.Reaching.{better_left, better_right}
use Rattle.theory.proofs.Tabs.{none_some, some_same}
use Rattle.theory.proofs.Weighing.{no_worse_refl}

-- a weight that is there and no worse than a
abbrev pub SomeWithin : {W : Type 0} → Meaning W → Option W → W → Type 0
SomeWithin {W} m o a = (c : W) × (o ≡ Some c) × NoWorse m c a

module _ {W : Type 0} (m : Meaning W) (laws : TravelLaws m) where
  pub better_keeps : (x y : Option W) (a : W) → (x ≡ Some a) ⊎ (y ≡ Some a) → SomeWithin m (better_some m x y) a
  better_keeps None None a h = absurd (⊎_elim (λ e. none_some a e) (λ e. none_some a e) h)
  better_keeps None (Some d) a h = ⊎_elim (λ e. absurd (none_some a e)) (λ e. (d, refl, subst (NoWorse m d) (some_same d a e) (no_worse_refl m laws d))) h
  better_keeps (Some c) None a h = ⊎_elim (λ e. (c, refl, subst (NoWorse m c) (some_same c a e) (no_worse_refl m laws c))) (λ e. absurd (none_some a e)) h
  better_keeps (Some c) (Some d) a h =
      (better_of m c d, refl, ⊎_elim (λ e. subst (NoWorse m (better_of m c d)) (some_same c a e) (better_left m laws c d)) (λ e. subst (NoWorse m (better_of m c d)) (some_same d a e) (better_right m laws c d)) h)

  -- what was within stays so when another is weighed against it
  pub better_within : (x y : Option W) (a : W) → SomeWithin m x a → SomeWithin m (better_some m x y) a
  better_within x y a (c, is, ok) = let (d, is', less) = better_keeps x y c (inl is) in (d, is', laws.trans d c a less ok)

  -- and what comes out is one of the two
  pub better_is : (x y : Option W) (c : W) → better_some m x y ≡ Some c → (x ≡ Some c) ⊎ (y ≡ Some c)
  better_is None y c e = inr e
  better_is (Some a) None c e = inl e
  better_is (Some a) (Some b) c e = by_test (m.leb a b) refl e
    where
      by_test : (t : Bool) → m.leb a b ≡ t → Some (cond t a b) ≡ Some c → (Some a ≡ Some c) ⊎ (Some b ≡ Some c)
      by_test true is h = inl h
      by_test false is h = inr h

  pub best_has : (n : ℕ) (f : ℕ → Option W) (v : ℕ) (a : W) → v < n → f v ≡ Some a → SomeWithin m (best_below m n f) a
  unfolding best_below
  best_has zero f v a within e = absurd (omega arith)
  best_has (suc n) f v a within e =
      ⊎_elim (λ below. better_within (best_below m n f) (f n) a (best_has n f v a below e))
      (λ above. let same : v ≡ n = omega arith in better_keeps (best_below m n f) (f n) a (inr (ap f (sym same) ∙ e))) (cases_lt v n)

  pub best_is : (n : ℕ) (f : ℕ → Option W) (c : W) → best_below m n f ≡ Some c → (v : ℕ) × (v < n) × (f v ≡ Some c)
  unfolding best_below
  best_is zero f c e = absurd (none_some c e)
  best_is (suc n) f c e =
      ⊎_elim (λ old. let (v, within, is) = best_is n f c old in (v, omega arith, is)) (λ new. (n, omega arith, new)) (better_is (best_below m n f) (f n) c e)

  -- two weights joined are both there
  pub join_is : (x y : Option W) (c : W) → join_some m x y ≡ Some c → (a : W) × ((b : W) × ((x ≡ Some a) × (y ≡ Some b) × (c ≡ m.join a b)))
  join_is None y c e = absurd (none_some c e)
  join_is (Some a) None c e = absurd (none_some c e)
  join_is (Some a) (Some b) c e = (a, (b, (refl, refl, sym (some_same (m.join a b) c e))))

  module _ (n : ℕ) (picked : List Bool) (g : Grid W) where
    -- a cell of the next network is a section, or two joined over a picked station
    pub cell_is : (u w : ℕ) (c : W) → next_cell m n picked g u w ≡ Some c → (is_picked picked w ≡ false) × (u ≢ w) × ((look g u w ≡ Some c) ⊎ ((v : ℕ) × ((is_picked picked v ≡ true) × (join_some m (look g u v) (look g v w) ≡ Some c))))
    cell_is u w c e = by_test (is_picked picked w) refl (eqb u w) refl e
      where
        way_is : (v : ℕ) → by_way m picked g u w v ≡ Some c → (look g u w ≡ Some c) ⊎ ((v : ℕ) × ((is_picked picked v ≡ true) × (join_some m (look g u v) (look g v w) ≡ Some c)))
        way_is v h = at (eqb v w) (is_picked picked v) refl h
          where
            at : (s t : Bool) → is_picked picked v ≡ t → cond s (look g u w) (cond t (join_some m (look g u v) (look g v w)) None) ≡ Some c → (look g u w ≡ Some c) ⊎ ((v : ℕ) × ((is_picked picked v ≡ true) × (join_some m (look g u v) (look g v w) ≡ Some c)))
            at true t is k = inl k
            at false true is k = inr (v, (is, k))
            at false false is k = absurd (none_some c k)

        by_test : (s : Bool) → is_picked picked w ≡ s → (t : Bool) → eqb u w ≡ t → choose (s || t) (λ _. None) (λ _. best_below m n (by_way m picked g u w)) ≡ Some c → (is_picked picked w ≡ false) × (u ≢ w) × ((look g u w ≡ Some c) ⊎ ((v : ℕ) × ((is_picked picked v ≡ true) × (join_some m (look g u v) (look g v w) ≡ Some c))))
        by_test true is t same h = absurd (none_some c h)
        by_test false is true same h = absurd (none_some c h)
        by_test false is false same h = (is, (λ e'. both_ways (eqb u w) same (eq-eqb u w e')), let (v, within, way) = best_is n (by_way m picked g u w) c h in way_is v way)

    -- and it is no worse than any way
    pub cell_has : (u w v : ℕ) (a : W) → is_picked picked w ≡ false → u ≢ w → v < n → by_way m picked g u w v ≡ Some a → SomeWithin m (next_cell m n picked g u w) a
    cell_has u w v a hw apart within e =
        subst (λ t. SomeWithin m (choose t (λ _. None) (λ _. best_below m n (by_way m picked g u w))) a) (sym (ap₂ ◌||◌ hw (ne_eqb u w apart))) (best_has n (by_way m picked g u w) v a within e)

    pub way_direct : (u w : ℕ) → by_way m picked g u w w ≡ look g u w
    way_direct u w = cond-true _ _ _ (eq-eqb w w refl)

    pub way_over : (u v w : ℕ) → v ≢ w → is_picked picked v ≡ true → by_way m picked g u w v ≡ join_some m (look g u v) (look g v w)
    way_over u v w apart is = cond-false _ _ _ (ne_eqb v w apart) ∙ cond-true _ _ _ is
