-- Weights and walks under the laws of travel. Assumes nothing.
use Rattle.std.proofs.Common.{◌≡◌, ℕ, sym, subst, ⊎_elim}
use Rattle.measure.specs.Meaning.{Meaning, Lawful}
use Rattle.model.specs.Networks.{Best, Net}
use Rattle.model.specs.Queries.{turned}
use Rattle.theory.specs.Ascent.{BestIsUnique}
use Rattle.theory.specs.Laws.{NoWorse, TravelLaws}

-- a lawful measure keeps the laws of travel; that joining commutes is left out
pub travel_laws : {W : Type 0} (m : Meaning W) → Lawful m → TravelLaws m
travel_laws m l =
    record {
      total = l.total;
      trans = l.trans;
      antisym = l.antisym;
      assoc = l.assoc;
      free_left = l.free_left;
      free_right = l.free_right;
      no_way_left = l.no_way_left;
      no_way_right = l.no_way_right;
      mono_left = l.mono_left;
      mono_right = l.mono_right;
      free_best = l.free_best;
      no_way_worst = l.no_way_worst;
    }

-- the laws of travel hold against the direction of travel
pub turned_laws : {W : Type 0} (m : Meaning W) → TravelLaws m → TravelLaws (turned m)
turned_laws m l =
    record {
      total = l.total;
      trans = l.trans;
      antisym = l.antisym;
      assoc = λ a b c. sym (l.assoc c b a);
      free_left = l.free_right;
      free_right = l.free_left;
      no_way_left = l.no_way_right;
      no_way_right = l.no_way_left;
      mono_left = l.mono_right;
      mono_right = l.mono_left;
      free_best = l.free_best;
      no_way_worst = l.no_way_worst;
    }

module _ {W : Type 0} (m : Meaning W) (laws : TravelLaws m) where
  pub no_worse_refl : (a : W) → NoWorse m a a
  no_worse_refl a = ⊎_elim (λ h. h) (λ h. h) (laws.total a a)

  pub no_worse_of : (a b : W) → a ≡ b → NoWorse m a b
  no_worse_of a b e = subst (NoWorse m a) e (no_worse_refl a)

  -- both sides may get worse
  pub mono : (a b c d : W) → NoWorse m a b → NoWorse m c d → NoWorse m (m.join a c) (m.join b d)
  mono a b c d p q = laws.trans _ (m.join b c) _ (laws.mono_left a b c p) (laws.mono_right c d b q)

  -- what is joined in front makes nothing better
  pub grows : (a b : W) → NoWorse m b (m.join a b)
  grows a b = subst (λ x. NoWorse m x (m.join a b)) (laws.free_left b) (laws.mono_left m.free a b (laws.free_best a))

  -- nor does what is joined behind
  pub grows_behind : (a b : W) → NoWorse m a (m.join a b)
  grows_behind a b = subst (λ x. NoWorse m x (m.join a b)) (laws.free_right a) (laws.mono_right m.free b a (laws.free_best b))

  -- a best cost is no worse than another
  best_below : (G : Net W) (s t : ℕ) (c d : W) → Best m G s t c → Best m G s t d → NoWorse m c d
  best_below G s t c d best other =
      ⊎_elim (λ none. subst (NoWorse m c) (sym none) (laws.no_way_worst c)) (λ found. subst (NoWorse m c) found.1 (best.none_better found.0)) other.reached

  pub best_unique : BestIsUnique m
  best_unique G s t c d best other = laws.antisym c d (best_below G s t c d best other) (best_below G s t d c other best)
