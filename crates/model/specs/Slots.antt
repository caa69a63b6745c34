-- What a search, or the picking of a level, knows of each station. Assumes nothing.
use Rattle.std.specs.Prelude.{ℕ, suc, Bool, true, false, cond, List, [], ◌∷◌, Some, None, Option, slice_set}
use Rattle.model.specs.declared.slot.Slot.{Slot}
use Rattle.model.specs.declared.slot.Slot.TheVariants.{Free, Settled, Waits}

-- A waiting station and the best of those behind it: at equal keys the one in front.
abbrev pub first_of : {W : Type 0} → (W → W → Bool) → ℕ × W → Option (ℕ × W) → Option (ℕ × W)
first_of leb p None = Some p
first_of leb p (Some q) = cond (leb p.1 q.1) (Some p) (Some q)

-- The best waiting station of slots that begin at station s.
unfoldable pub least_from : {W : Type 0} → (W → W → Bool) → ℕ → List (Slot W) → Option (ℕ × W)
least_from leb s [] = None
least_from leb s (Free ∷ xs) = least_from leb (suc s) xs
least_from leb s (Waits w ∷ xs) = first_of leb (s, w) (least_from leb (suc s) xs)
least_from leb s (Settled w ∷ xs) = least_from leb (suc s) xs

-- The waiting station with the best key, the lowest station at a tie, and its key.
abbrev pub least : {W : Type 0} → (W → W → Bool) → List (Slot W) → Option (ℕ × W)
least leb xs = least_from leb 0 xs

-- The slots with that station settled.
abbrev pub settling : {W : Type 0} → ℕ × W → List (Slot W) → List (Slot W)
settling p xs = slice_set xs p.0 (Settled p.1)

-- Whether a station was settled.
abbrev pub is_settled : {W : Type 0} → Slot W → Bool
is_settled Free = false
is_settled (Waits w) = false
is_settled (Settled w) = true

-- The key that a station has, waiting or settled.
abbrev pub key_of : {W : Type 0} → Slot W → Option W
key_of Free = None
key_of (Waits w) = Some w
key_of (Settled w) = Some w
