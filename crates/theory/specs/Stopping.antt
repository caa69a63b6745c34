-- When a two-sided search may stop. Assumes nothing.
use Rattle.std.specs.Prelude.{◌≡◌, ℕ, Bool, true, false, Some}
use Rattle.measure.specs.Meaning.{Meaning}
use Rattle.model.specs.Networks.{Net, Walk, cost}
use Rattle.theory.specs.Laws.{NoWorse}

-- A search from both sides at rest. Each station has a key on each side, no way where it has none. A settled station's
-- neighbours are keyed no worse than over it; of the others none is keyed better than the least key of its side, which is
-- no way where nothing waits. The best so far is no worse than the two keys of any station joined, nor than the two least
-- keys joined. Which side went when plays no part.
pub record AtRest {W : Type 0} (m : Meaning W) (G : Net W) (forward reverse : ℕ → W) (done done_back : ℕ → Bool) (least least_back best : W) : Type 0 where
  pub relaxed : (x u : ℕ) (a : W) → done x ≡ true → G x u ≡ Some a → NoWorse m (forward u) (m.join (forward x) a)
  pub relaxed_back : (x u : ℕ) (a : W) → done_back x ≡ true → G u x ≡ Some a → NoWorse m (reverse u) (m.join a (reverse x))
  pub waiting : (x : ℕ) → done x ≡ false → NoWorse m least (forward x)
  pub waiting_back : (x : ℕ) → done_back x ≡ false → NoWorse m least_back (reverse x)
  pub meets : (x : ℕ) → NoWorse m best (m.join (forward x) (reverse x))
  pub stops : NoWorse m best (m.join least least_back)

-- Then the best so far is no worse than any walk between stations that were seeded on the two sides.
abbrev pub StopIsRight : {W : Type 0} → Meaning W → Type 0
StopIsRight {W} m = (G : Net W) (forward reverse : ℕ → W) (done done_back : ℕ → Bool) (least least_back best : W) →
    AtRest m G forward reverse done done_back least least_back best →
    (x y : ℕ) (a b : W) → NoWorse m (forward x) a → NoWorse m (reverse y) b → (q : Walk G y x) → NoWorse m best (m.join a (m.join (cost m q) b))
