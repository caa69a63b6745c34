-- The measure of clearance. Assumes nothing.
use Rattle.std.specs.Prelude.{ℕ, min, Bool, cond, ◌&&◌, List, ◌++◌, Some, None, codes, decimal, Option, ◌==◌, nat_le}
use Rattle.std.proofs.Math.Nat.{min-le_right}
use Rattle.measure.specs.Meaning.{Meaning}
use Rattle.measure.specs.declared.clearance.Clearance.{Clearance}

-- The top: what passes everything.
abbrev pub clearance_top : ℕ
clearance_top = 65535

-- That much clearance, stopped at the top.
abbrev pub clearance_of : ℕ → Clearance
clearance_of n = record { value = min n clearance_top; ok = min-le_right n clearance_top }

-- That much clearance, if this is a weight at all.
abbrev pub clearance_if : ℕ → Option Clearance
clearance_if n = cond (nat_le n clearance_top) (Some (clearance_of n)) None

-- A section has a clearance of 1 to 65,535.
abbrev pub fit_clearance : ℕ → Bool
fit_clearance n = nat_le 1 n && nat_le n clearance_top

-- More clearance is better, and the narrowest place decides.
abbrev pub clearance_meaning : Meaning Clearance
clearance_meaning = record {
  leb = λ a b. nat_le b.value a.value;
  join = λ a b. clearance_of (min a.value b.value);
  free = clearance_of clearance_top;
  no_way = clearance_of 0;
  fit = λ w. fit_clearance w.value;
  number = λ w. w.value;
  reading = λ k. cond (fit_clearance k) (Some (clearance_of k)) None;
  code = 2;
}

-- How a clearance is printed.
abbrev pub clearance_shown : Clearance → List ℕ
clearance_shown w = cond (w.value == 0) (codes "no way") (codes "clearance " ++ decimal w.value)
