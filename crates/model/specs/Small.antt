-- Pairs of ends, and settings. Assumes nothing.
use Rattle.std.specs.Prelude.{ℕ, min, max, Bool, cond, ◌&&◌, Some, None, Ok, Err, Option, Result, ◌==◌, nat_le, nat_lt}
use Rattle.model.specs.declared.refusal.Refusal.{Refusal}
use Rattle.model.specs.declared.refusal.Refusal.TheVariants.{BadSettings}

-- The ends that two plain numbers of a row are: only if the lower comes first.
abbrev pub ends_of_row : ℕ → ℕ → Option (ℕ × ℕ)
ends_of_row low high = cond (nat_lt low high) (Some (low, high)) None

-- The ends between two stations that a call names in either order: only if they differ.
abbrev pub ends_between : ℕ → ℕ → Option (ℕ × ℕ)
ends_between u v = cond (u == v) None (Some (min u v, max u v))

-- A height limit from 1 to 255 and a threshold from 1 to 100.
abbrev pub in_limits : ℕ → ℕ → Bool
in_limits height threshold = (nat_le 1 height && nat_le height 255) && (nat_le 1 threshold && nat_le threshold 100)

-- The settings that two numbers make, or the refusal.
abbrev pub settings_of : ℕ → ℕ → Result (ℕ × ℕ) Refusal
settings_of height threshold = cond (in_limits height threshold) (Ok (height, threshold)) (Err BadSettings)

-- What a function makes of an accepted value.
abbrev pub ok_mapped : {A B E : Type 0} → (A → B) → Result A E → Result B E
ok_mapped f (Ok x) = Ok (f x)
ok_mapped f (Err e) = Err e
