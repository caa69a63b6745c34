-- Sections in their table's order, and their amendment. Assumes nothing.
use Rattle.std.specs.Prelude.{ℕ, suc, Bool, true, cond, ◌&&◌, ◌||◌, List, [], ◌∷◌, Some, None, Option, ◌==◌, nat_lt}
use Rattle.measure.specs.Meaning.{Meaning}
use Rattle.model.specs.declared.records.Section.{Section}

-- One pair of ends comes before another: by the lower end, then by the higher.
abbrev pub ends_before : ℕ → ℕ → ℕ → ℕ → Bool
ends_before low high low' high' = nat_lt low low' || (low == low' && nat_lt high high')

-- Two pairs of ends are the same.
abbrev pub same_ends : ℕ → ℕ → ℕ → ℕ → Bool
same_ends low high low' high' = low == low' && high == high'

-- The sections' ends rise from each to the next, all after the given pair.
abbrev pub rises_from : {W : Type 0} → ℕ → ℕ → List (Section W) → Bool
rises_from low high [] = true
rises_from low high (s ∷ ss) = ends_before low high s.low s.high && rises_from s.low s.high ss

-- The sections stand in ascending order. No pair of ends comes before 0 and 0, which are no ends.
abbrev pub ascends : {W : Type 0} → List (Section W) → Bool
ascends ss = rises_from 0 0 ss

-- Each section passes a test.
abbrev pub every : {W : Type 0} → (Section W → Bool) → List (Section W) → Bool
every passes [] = true
every passes (s ∷ ss) = passes s && every passes ss

-- Each section joins a lower station to a higher one below n.
abbrev pub all_within : {W : Type 0} → ℕ → List (Section W) → Bool
all_within n [] = true
all_within n (s ∷ ss) = (nat_lt s.low s.high && nat_lt s.high n) && all_within n ss

-- Each section has a fit weight.
abbrev pub all_fit : {W : Type 0} → Meaning W → List (Section W) → Bool
all_fit m ss = every (λ s. m.fit s.weight) ss

-- The weight of the section with these ends.
abbrev pub weight_of : {W : Type 0} → ℕ → ℕ → List (Section W) → Option W
weight_of low high [] = None
weight_of low high (s ∷ ss) = cond (same_ends s.low s.high low high) (Some s.weight) (weight_of low high ss)

-- The place of the first section that does not come before these ends: where they stand, or where they would.
abbrev pub place_of : {W : Type 0} → ℕ → ℕ → List (Section W) → ℕ
place_of low high [] = 0
place_of low high (s ∷ ss) = cond (ends_before s.low s.high low high) (suc (place_of low high ss)) 0

-- The sections with this one in its place: new, or in the stead of the one with the same ends.
abbrev pub placed : {W : Type 0} → Section W → List (Section W) → List (Section W)
placed x [] = x ∷ []
placed x (s ∷ ss) =
    cond (same_ends s.low s.high x.low x.high) (x ∷ ss)
    (cond (ends_before x.low x.high s.low s.high) (x ∷ s ∷ ss) (s ∷ placed x ss))

-- The sections without the one that has these ends.
abbrev pub without : {W : Type 0} → ℕ → ℕ → List (Section W) → List (Section W)
without low high [] = []
without low high (s ∷ ss) = cond (same_ends s.low s.high low high) ss (s ∷ without low high ss)
