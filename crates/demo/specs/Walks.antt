-- What the steps of a walk weigh. Assumes nothing.
use Rattle.std.specs.Prelude.{ℕ, List, [], ◌∷◌}
use Rattle.std.specs.Option.{unwrap_or}
use Rattle.measure.specs.Meaning.{Meaning}
use Rattle.model.specs.Networks.{network}
use Rattle.model.specs.declared.records.Section.{Section}

-- The weight of a step: that of the section between the two stations, or no way.
abbrev pub step_weight : {W : Type 0} → Meaning W → List (Section W) → ℕ → ℕ → W
step_weight m ss u v = unwrap_or (network ss u v) m.no_way

-- The weights of the steps from u along the stations that follow.
abbrev pub step_weights : {W : Type 0} → Meaning W → List (Section W) → ℕ → List ℕ → List W
step_weights m ss u [] = []
step_weights m ss u (v ∷ vs) = step_weight m ss u v ∷ step_weights m ss v vs
