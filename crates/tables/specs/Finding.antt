-- Sections at their places. Assumes nothing.
use Rattle.std.specs.Prelude.{ℕ, zero, suc, Bool, false, List, [], ◌∷◌, Ok, Err, Result}
use Rattle.model.specs.Sections.{same_ends}
use Rattle.model.specs.declared.records.Section.{Section}

-- Whether the section at this place has exactly these ends; past the last there is none.
abbrev pub has_at : {W : Type 0} → ℕ → ℕ → ℕ → List (Section W) → Bool
has_at place low high [] = false
has_at zero low high (s ∷ ss) = same_ends s.low s.high low high
has_at (suc place) low high (s ∷ ss) = has_at place low high ss

-- The place that a search gives: where the ends stand, or else where they would.
abbrev pub place_in : Result ℕ ℕ → ℕ
place_in (Ok place) = place
place_in (Err place) = place
