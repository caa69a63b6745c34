-- Networks, walks, and the best among walks. Assumes nothing.
use Rattle.std.specs.Prelude.{◌≡◌, ℕ, true, cond, ◌⊎◌, List, Some, None, Option, nat_lt}
use Rattle.measure.specs.Meaning.{Meaning}
use Rattle.model.specs.Sections.{weight_of}
use Rattle.model.specs.declared.records.Section.{Section}

-- A network says what the section from one station to another weighs, if there is one.
abbrev pub Net : Type 0 → Type 0
Net W = ℕ → ℕ → Option W

-- The network of some sections: each can be travelled both ways.
abbrev pub network : {W : Type 0} → List (Section W) → Net W
network ss u v = cond (nat_lt u v) (weight_of u v ss) (cond (nat_lt v u) (weight_of v u ss) None)

-- A walk to t: it stops there, or goes over a section to where a walk goes on.
pub data Walk {W : Type 0} (G : Net W) (t : ℕ) : ℕ → Type 0 where
  stop : Walk G t t
  step : (s u : ℕ) (a : W) → G s u ≡ Some a → Walk G t u → Walk G t s

-- The cost of a walk: its sections' weights joined, free where there is none.
abbrev pub cost : {W : Type 0} (m : Meaning W) {G : Net W} {t s : ℕ} → Walk G t s → W
cost m stop = m.free
cost m (step s u a e rest) = m.join a (cost m rest)

-- c is the best among the walks from s to t: none betters it, and it is the cost of one, or no way.
pub record Best {W : Type 0} (m : Meaning W) (G : Net W) (s t : ℕ) (c : W) : Type 0 where
  pub none_better : (p : Walk G t s) → m.leb c (cost m p) ≡ true
  pub reached : (c ≡ m.no_way) ⊎ ((p : Walk G t s) × (cost m p ≡ c))
