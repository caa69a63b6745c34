-- Lists that are made from numbers, and choices that compute one arm only. Assumes nothing.
use Rattle.std.specs.Prelude.{ℕ, zero, suc, ◌-◌, Bool, true, false, List, [], ◌∷◌, ◌++◌, length, replicate, Some, None, Option}

-- The lists f 0 to f (n − 1), one behind the other.
unfoldable pub stretch : {A : Type 0} → ℕ → (ℕ → List A) → List A
stretch zero f = []
stretch (suc n) f = stretch n f ++ f n

-- The row f 0 to f (n − 1).
abbrev pub tab : {A : Type 0} → ℕ → (ℕ → A) → List A
tab n f = stretch n (λ i. f i ∷ [])

-- A table's records: those in use, and blanks up to its length.
abbrev pub padded : {A : Type 0} → ℕ → A → List A → List A
padded n blank xs = xs ++ replicate (n - length xs) blank

-- The first where the test holds, else the second.
abbrev pub choose : {A : Type 0} → Bool → (Unit {0} → A) → (Unit {0} → A) → A
choose true f g = f tt
choose false f g = g tt

-- What is made of a value that may be missing.
abbrev pub by_some : {A B : Type 0} → Option A → B → (A → B) → B
by_some None none some = none
by_some (Some x) none some = some x
