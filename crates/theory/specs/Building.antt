-- What is built over levels stands on networks, however the levels were picked. Assumes nothing.
use Rattle.std.specs.Prelude.{◌≡◌, ℕ, zero, suc, ◌<◌, ◌≤◌, true, cond, List, Some, None, ◌≢◌, nat_le}
use Rattle.measure.specs.Meaning.{Meaning}
use Rattle.model.specs.Levels.{climbed, level_at, look, stage_by}
use Rattle.model.specs.Networks.{Best, Net, network}
use Rattle.model.specs.Queries.{indexed_query, plain_query}
use Rattle.model.specs.Sections.{all_within}
use Rattle.model.specs.Tables.{built, built_by}
use Rattle.model.specs.declared.records.Section.{Section}
use Rattle.theory.specs.Indexed.{StandsOn}
use Rattle.theory.specs.Sides.{Bounded}

-- The network of each level over given levels, from level 1 on: the rows of the stations whose level is not below it.
abbrev pub level_net : {W : Type 0} → Meaning W → ℕ → List ℕ → Net W → ℕ → Net W
level_net m n levels G zero u v = None
level_net m n levels G (suc j) u v = cond (nat_le (suc j) (level_at levels u)) (look (stage_by m n levels G j).rows u v) None

-- A network of n stations that is the same both ways and has no section from a station to itself.
pub record PlainNetwork {W : Type 0} (n : ℕ) (G : Net W) : Type 0 where
  pub bounded : Bounded n G
  pub both_ways : (u v : ℕ) → G u v ≡ G v u
  pub no_loop : (u : ℕ) → G u u ≡ None

-- Levels from 1 to k for all stations and no more, of which those of each level below k are independent in its network.
pub record GoodLevels {W : Type 0} (m : Meaning W) (n k : ℕ) (levels : List ℕ) (G : Net W) : Type 0 where
  pub some_level : 1 ≤ k
  pub low : (u : ℕ) → u < n → 1 ≤ level_at levels u
  pub high : (u : ℕ) → u < n → level_at levels u ≤ k
  pub beyond : (u : ℕ) → n ≤ u → level_at levels u ≡ 0
  pub independent : (i u v : ℕ) (a : W) → i < k → level_at levels u ≡ i → level_at levels v ≡ i → level_net m n levels G i u v ≢ Some a

-- Over good levels, what is built stands on the levels' networks.
abbrev pub LevelsStand : {W : Type 0} → Meaning W → Type 0
LevelsStand {W} m = (n j : ℕ) (levels : List ℕ) (G : Net W) → PlainNetwork n G → GoodLevels m n (suc j) levels G → StandsOn m n (built_by m n (suc j) levels (stage_by m n levels G j).rows) (level_net m n levels G)

-- So, over good levels, the indexed query answers the best among all walks of the network.
abbrev pub LevelsAnswer : {W : Type 0} → Meaning W → Type 0
LevelsAnswer {W} m = (n j : ℕ) (levels : List ℕ) (G : Net W) → PlainNetwork n G → GoodLevels m n (suc j) levels G → (s t : ℕ) → s < n → t < n →
    Best m G s t (indexed_query m n (built_by m n (suc j) levels (stage_by m n levels G j).rows) s t).cost

-- And it answers as the plain query does.
abbrev pub QueriesAgree : {W : Type 0} → Meaning W → Type 0
QueriesAgree {W} m = (n j : ℕ) (levels : List ℕ) (G : Net W) → PlainNetwork n G → GoodLevels m n (suc j) levels G → (s t : ℕ) → s < n → t < n →
    (indexed_query m n (built_by m n (suc j) levels (stage_by m n levels G j).rows) s t).cost ≡ (plain_query m n G s t).cost

-- Sections that join stations below n make such a network.
abbrev pub SectionsMakeANetwork : Type 0 → Type 0
SectionsMakeANetwork W = (n : ℕ) (ss : List (Section W)) → all_within n ss ≡ true → PlainNetwork n (network ss)

-- What a build of any network under any height limit and threshold answers: the best among all walks, as the plain query does.
pub record AnswersRight {W : Type 0} (m : Meaning W) (n : ℕ) (G : Net W) (height threshold s t : ℕ) : Type 0 where
  pub best : Best m G s t (indexed_query m n (built m n (climbed m n G height threshold)) s t).cost
  pub agrees : (indexed_query m n (built m n (climbed m n G height threshold)) s t).cost ≡ (plain_query m n G s t).cost

-- So it is for every build.
abbrev pub BuildsAnswerRight : {W : Type 0} → Meaning W → Type 0
BuildsAnswerRight {W} m = (n : ℕ) (G : Net W) → PlainNetwork n G → (height threshold s t : ℕ) → s < n → t < n → AnswersRight m n G height threshold s t
