-- The measure of ticks. Assumes nothing.
use Rattle.std.specs.Prelude.{ℕ, ◌+◌, min, Bool, cond, ◌&&◌, List, ◌++◌, Some, None, codes, decimal, Option, ◌==◌, nat_le}
use Rattle.std.proofs.Math.Nat.{min-le_right}
use Rattle.measure.specs.Meaning.{Meaning}
use Rattle.measure.specs.declared.ticks.Ticks.{Ticks}

-- The top: more ticks than any way takes.
abbrev pub ticks_top : ℕ
ticks_top = 4294967295

-- That many ticks, stopped at the top.
abbrev pub ticks_of : ℕ → Ticks
ticks_of n = record { value = min n ticks_top; ok = min-le_right n ticks_top }

-- That many ticks, if this is a weight at all.
abbrev pub ticks_if : ℕ → Option Ticks
ticks_if n = cond (nat_le n ticks_top) (Some (ticks_of n)) None

-- A section takes 1 to 1,000,000 ticks.
abbrev pub fit_ticks : ℕ → Bool
fit_ticks n = nat_le 1 n && nat_le n 1000000

-- Fewer ticks are better, and ticks add up.
abbrev pub ticks_meaning : Meaning Ticks
ticks_meaning = record {
  leb = λ a b. nat_le a.value b.value;
  join = λ a b. ticks_of (a.value + b.value);
  free = ticks_of 0;
  no_way = ticks_of ticks_top;
  fit = λ w. fit_ticks w.value;
  number = λ w. w.value;
  reading = λ k. cond (fit_ticks k) (Some (ticks_of k)) None;
  code = 1;
}

-- How ticks are printed.
abbrev pub ticks_shown : Ticks → List ℕ
ticks_shown w = cond (w.value == ticks_top) (codes "no way") (decimal w.value ++ codes " ticks")
