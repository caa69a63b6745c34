-- That a trip so made is one. Assumes nothing.
use Rattle.std.specs.Prelude.{◌≡◌, ℕ, ◌≤◌, min, Bool, true, false, cond, nat_le, refl}
use Rattle.std.proofs.Common.{arith, leb-false}

pub trip_bounds : (t x : ℕ) → (min t 4294967295 ≤ 4294967295) × (cond (nat_le 4294967295 t) 65535 (min x 65535) ≤ 65535) × (4294967295 ≤ min t 4294967295 → 65535 ≤ cond (nat_le 4294967295 t) 65535 (min x 65535))
trip_bounds t x = go (nat_le 4294967295 t) refl
  where
    go : (b : Bool) → nat_le 4294967295 t ≡ b → (min t 4294967295 ≤ 4294967295) × (cond b 65535 (min x 65535) ≤ 65535) × (4294967295 ≤ min t 4294967295 → 65535 ≤ cond b 65535 (min x 65535))
    go true e = (omega arith, omega arith, λ _. omega arith)
    go false e = (omega arith, omega arith, λ top. omega (arith, leb-false 4294967295 t e))
