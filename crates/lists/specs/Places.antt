use Rattle.std.specs.Prelude.{ℕ, zero, suc, Bool, cond, Ok, Err, Result}

-- goes on with the next judgement where the test holds, and else stops at the fault
abbrev pub demand : {X F : Type 0} → Bool → F → Result X F → Result X F
demand test fault next = cond test next (Err fault)

-- goes on with the next judgement where the first found no fault
abbrev pub then : {X F : Type 0} → Result (Unit {0}) F → Result X F → Result X F
then (Ok x) next = next
then (Err fault) next = Err fault

-- the first fault that is found at `left` places from `at` on
unfoldable pub first_fault : {F : Type 0} → (ℕ → Result (Unit {0}) F) → ℕ → ℕ → Result (Unit {0}) F
first_fault judge zero at = Ok tt
first_fault judge (suc left) at = then (judge at) (first_fault judge left (suc at))
