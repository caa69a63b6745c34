use Rattle.std.specs.Prelude.{ℕ, ◌+◌, ◌-◌, List, ◌++◌, length, take, drop, replicate}

-- d with s written over it from place a on
abbrev pub over : {X : Type 0} → List X → ℕ → List X → List X
over d a s = take a d ++ (s ++ drop (a + length s) d)

-- p with zeros after it, up to n elements
abbrev pub filled : ℕ → List ℕ → List ℕ
filled n p = p ++ replicate (n - length p) 0
