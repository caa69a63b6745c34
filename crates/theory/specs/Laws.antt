-- What the theory asks of a measure. Assumes nothing.
use Rattle.std.specs.Prelude.{◌≡◌, ℕ, true, ◌⊎◌, Some}
use Rattle.measure.specs.Meaning.{Meaning}
use Rattle.model.specs.Networks.{Net}

-- The first weight is no worse than the second.
abbrev pub NoWorse : {W : Type 0} → Meaning W → W → W → Type 0
NoWorse m a b = m.leb a b ≡ true

-- The laws that the theory uses. Joining need not commute, so what is shown holds for travel in one direction too.
pub record TravelLaws {W : Type 0} (m : Meaning W) : Type 0 where
  pub total : (a b : W) → NoWorse m a b ⊎ NoWorse m b a
  pub trans : (a b c : W) → NoWorse m a b → NoWorse m b c → NoWorse m a c
  pub antisym : (a b : W) → NoWorse m a b → NoWorse m b a → a ≡ b
  pub assoc : (a b c : W) → m.join (m.join a b) c ≡ m.join a (m.join b c)
  pub free_left : (w : W) → m.join m.free w ≡ w
  pub free_right : (w : W) → m.join w m.free ≡ w
  pub no_way_left : (w : W) → m.join m.no_way w ≡ m.no_way
  pub no_way_right : (w : W) → m.join w m.no_way ≡ m.no_way
  pub mono_left : (a b c : W) → NoWorse m a b → NoWorse m (m.join a c) (m.join b c)
  pub mono_right : (a b c : W) → NoWorse m a b → NoWorse m (m.join c a) (m.join c b)
  pub free_best : (w : W) → NoWorse m m.free w
  pub no_way_worst : (w : W) → NoWorse m w m.no_way

-- A network has a section from u to w that is no worse than a.
abbrev pub Has : {W : Type 0} → Meaning W → Net W → ℕ → ℕ → W → Type 0
Has {W} m G u w a = (c : W) × (G u w ≡ Some c) × NoWorse m c a
