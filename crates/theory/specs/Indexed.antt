-- The indexed query over any levels and labels. Assumes nothing.
use Rattle.std.specs.Prelude.{◌≡◌, ℕ, ◌*◌, ◌<◌, ◌≤◌, cond, Some, ◌==◌}
use Rattle.measure.specs.Meaning.{Meaning}
use Rattle.model.specs.Levels.{level_at, look, sum_below}
use Rattle.model.specs.Networks.{Best, Net}
use Rattle.model.specs.Queries.{indexed_query}
use Rattle.model.specs.Tables.{Built, legs_of}
use Rattle.theory.specs.Sides.{LegsOf}
use Rattle.theory.specs.Towers.{In, InLabels, OutLabels, Tower, back}

-- The level of a station of a built index.
abbrev pub lev_of : {W : Type 0} → Built W → ℕ → ℕ
lev_of b u = level_at b.levels u

-- A built index stands on networks: its levels carry a tower of them, its labels are labels there for both directions of
-- travel, and the rows of its residual stations are the sections of the residual network, both ways.
pub record StandsOn {W : Type 0} (m : Meaning W) (n : ℕ) (b : Built W) (G : ℕ → Net W) : Type 0 where
  pub some_level : 1 ≤ b.top
  pub all_in : (u : ℕ) → u < n → In (lev_of b) b.top 1 u
  pub tower : Tower m b.top (lev_of b) G
  pub out_labels : OutLabels m b.top (lev_of b) G (look b.labels)
  pub in_labels : InLabels m b.top (lev_of b) G (look b.labels)
  pub hubs_below : (v w : ℕ) (d : W) → look b.labels v w ≡ Some d → w < n
  pub legs : (v : ℕ) → lev_of b v ≡ b.top → LegsOf n (G b.top) v (legs_of b.rows v)
  pub legs_back : (v : ℕ) → lev_of b v ≡ b.top → LegsOf n (back (G b.top)) v (legs_of b.rows v)

-- The indexed query answers the best among all walks of the lowest network, however the levels were picked.
abbrev pub IndexedIsRight : {W : Type 0} → Meaning W → Type 0
IndexedIsRight {W} m = (n : ℕ) (b : Built W) (G : ℕ → Net W) → StandsOn m n b G → (s t : ℕ) → s < n → t < n → Best m (G 1) s t (indexed_query m n b s t).cost

-- How many stations of a built index are residual.
abbrev pub residual_of : {W : Type 0} → ℕ → Built W → ℕ
residual_of n b = sum_below n (λ u. cond (lev_of b u == b.top) 1 0)

-- The indexed query settles at most twice the residual stations.
abbrev pub SettlesFew : {W : Type 0} → Meaning W → Type 0
SettlesFew {W} m = (n : ℕ) (b : Built W) (G : ℕ → Net W) → StandsOn m n b G → (s t : ℕ) → s < n → t < n → (indexed_query m n b s t).settled ≤ 2 * residual_of n b
