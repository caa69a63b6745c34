-- The laws of ticks. Assumes nothing.
use Rattle.std.specs.Prelude.{◌≡◌, ℕ, ◌*◌, ◌≤◌, true, List, [], ◌∷◌, length, Some, refl}
use Rattle.std.proofs.Common.{ap, ◌∙◌, arith}
use mathlib.Core.HLevel.{is_prop→PathP}
use Rattle.std.proofs.Math.Bridge.{le_prop}
use Rattle.std.proofs.lemmas.Bool.Decides.{nat_tests}
use Rattle.std.proofs.lemmas.Option.{cond_some}
use Rattle.measure.specs.Readings.{read_passes}
use Rattle.measure.specs.Meaning.{Lawful, AllFit, Carries, joined}
use Rattle.measure.specs.Ticks.{ticks_top, ticks_of, fit_ticks, ticks_meaning}
use Rattle.measure.specs.declared.ticks.Ticks.{Ticks}

-- two weights of as many ticks are one weight
pub ticks_same : (a b : Ticks) → a.value ≡ b.value → a ≡ b
ticks_same a b e = λ i. record { value = e i; ok = is_prop→PathP (λ j. e j ≤ ticks_top) (λ j. le_prop) a.ok b.ok i }

-- a number that reads as ticks is that many ticks, and fit
ticks_read : (k : ℕ) (w : Ticks) → ticks_meaning.reading k ≡ Some w → (fit_ticks w.value ≡ true) × (w.value ≡ k)
ticks_read k w e =
    let (passed, is) = cond_some (fit_ticks k) (ticks_of k) w e in
    let same : w.value ≡ k = let stopped = ap (λ (x : Ticks). x.value) is in grind (arith, nat_tests) in
    (ap fit_ticks same ∙ passed, same)

pub ticks_lawful : Lawful ticks_meaning
ticks_lawful = record {
  total = λ a b. grind (arith, nat_tests);
  trans = λ a b c. grind (arith, nat_tests);
  antisym = λ a b p q. ticks_same a b (grind (arith, nat_tests));
  assoc = λ a b c. ticks_same _ _ (omega arith);
  comm = λ a b. ticks_same _ _ (omega arith);
  free_left = λ w. ticks_same _ _ (omega arith);
  free_right = λ w. ticks_same _ _ (omega arith);
  no_way_left = λ w. ticks_same _ _ (omega arith);
  no_way_right = λ w. ticks_same _ _ (omega arith);
  mono_left = λ a b c. grind (arith, nat_tests);
  mono_right = λ a b c. grind (arith, nat_tests);
  free_best = λ w. grind (arith, nat_tests);
  no_way_worst = λ w. grind (arith, nat_tests);
  no_way_unfit = refl;
  number_below = λ w h. grind (arith, nat_tests);
  reads_back = λ w h. read_passes (fit_ticks w.value) (ticks_of w.value) w h (ticks_same _ _ (omega arith));
  reads_only = ticks_read;
  code_low = omega arith;
  code_high = omega arith;
}

-- each fit weight adds a million ticks at most
few_ticks : (ws : List Ticks) → AllFit ticks_meaning ws → (joined ticks_meaning ws).value ≤ 1000000 * length ws
few_ticks [] fit = omega arith
few_ticks (w ∷ ws) (fit, rest) = let less = few_ticks ws rest in grind (arith, nat_tests)

pub ticks_carry : Carries ticks_meaning
ticks_carry ws few fit lost =
    let less = few_ticks ws fit in
    let top = ap (λ (w : Ticks). w.value) lost in
    omega arith
