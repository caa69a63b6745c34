-- The search from both sides. Assumes nothing.
use Rattle.std.specs.Prelude.{ℕ, Option}
use Rattle.measure.specs.Meaning.{Meaning}
use Rattle.model.specs.Networks.{Net}
use Rattle.model.specs.Queries.{Search, turned}
use Rattle.theory.specs.Laws.{NoWorse}
use Rattle.theory.specs.Sides.{FromSeed, Side, key_at}
use Rattle.theory.specs.Towers.{back}

-- A two-sided search on its way: each side keeps its promise, the reverse one turned round; the best so far is no worse
-- than the two keys of any station joined, and is of a given kind.
pub record UnderWay {W : Type 0} (m : Meaning W) (n : ℕ) (R : Net W) (seed seed_back : ℕ → Option W) (Kind : W → Type 0) (s : Search W) : Type 0 where
  pub forward_ok : Side m n R seed s.forward
  pub reverse_ok : Side (turned m) n (back R) seed_back s.reverse
  pub meets : (x : ℕ) → NoWorse m s.best (m.join (key_at m s.forward x) (key_at m s.reverse x))
  pub kind : Kind s.best

-- A kind of weight that holds of a forward and a reverse key of one station, joined.
abbrev pub MeetsIn : {W : Type 0} → Meaning W → Net W → (ℕ → Option W) → (ℕ → Option W) → (W → Type 0) → Type 0
MeetsIn {W} m R seed seed_back Kind = (x : ℕ) (k j : W) → FromSeed m R seed x k → FromSeed (turned m) (back R) seed_back x j → Kind (m.join k j)
