-- The laws of clearance. Assumes nothing.
use Rattle.std.specs.Prelude.{◌≡◌, ℕ, ◌≤◌, min, true, List, [], ◌∷◌, Some, refl}
use Rattle.std.proofs.Common.{ap, ◌∙◌, arith}
use mathlib.Core.HLevel.{is_prop→PathP}
use Rattle.std.proofs.Math.Bridge.{le_prop}
use Rattle.std.proofs.lemmas.Bool.Decides.{nat_tests}
use Rattle.std.proofs.lemmas.Option.{cond_some}
use Rattle.measure.specs.Readings.{read_passes}
use Rattle.measure.specs.Meaning.{Lawful, AllFit, Carries, joined}
use Rattle.measure.specs.Clearance.{clearance_top, clearance_of, fit_clearance, clearance_meaning}
use Rattle.measure.specs.declared.clearance.Clearance.{Clearance}

-- two weights of as much clearance are one weight
pub clearance_same : (a b : Clearance) → a.value ≡ b.value → a ≡ b
clearance_same a b e = λ i. record { value = e i; ok = is_prop→PathP (λ j. e j ≤ clearance_top) (λ j. le_prop) a.ok b.ok i }

-- a number that reads as clearance is that much clearance, and fit
clearance_read : (k : ℕ) (w : Clearance) → clearance_meaning.reading k ≡ Some w → (fit_clearance w.value ≡ true) × (w.value ≡ k)
clearance_read k w e =
    let (passed, is) = cond_some (fit_clearance k) (clearance_of k) w e in
    let same : w.value ≡ k = let stopped = ap (λ (x : Clearance). x.value) is in grind (arith, nat_tests) in
    (ap fit_clearance same ∙ passed, same)

-- the narrowest of three places, taken in either order
narrowest : (a b c : ℕ) → a ≤ clearance_top → c ≤ clearance_top → min (min (min (min a b) clearance_top) c) clearance_top ≡ min (min a (min (min b c) clearance_top)) clearance_top
narrowest a b c p q =
    let front : min (min a b) clearance_top ≡ min a b = omega arith in
    let back : min (min b c) clearance_top ≡ min b c = omega arith in
    let turned : min (min a b) c ≡ min a (min b c) = omega arith in
    rw (front, back, turned) refl

pub clearance_lawful : Lawful clearance_meaning
clearance_lawful = record {
  total = λ a b. grind (arith, nat_tests);
  trans = λ a b c. grind (arith, nat_tests);
  antisym = λ a b p q. clearance_same a b (grind (arith, nat_tests));
  assoc = λ a b c. clearance_same _ _ (narrowest a.value b.value c.value a.ok c.ok);
  comm = λ a b. clearance_same _ _ (omega arith);
  free_left = λ w. clearance_same _ _ (omega arith);
  free_right = λ w. clearance_same _ _ (omega arith);
  no_way_left = λ w. clearance_same _ _ (omega arith);
  no_way_right = λ w. clearance_same _ _ (omega arith);
  mono_left = λ a b c. grind (arith, nat_tests);
  mono_right = λ a b c. grind (arith, nat_tests);
  free_best = λ w. grind (arith, nat_tests);
  no_way_worst = λ w. grind (arith, nat_tests);
  no_way_unfit = refl;
  number_below = λ w h. omega arith;
  reads_back = λ w h. read_passes (fit_clearance w.value) (clearance_of w.value) w h (clearance_same _ _ (omega arith));
  reads_only = clearance_read;
  code_low = omega arith;
  code_high = omega arith;
}

-- fit weights leave some clearance
some_clearance : (ws : List Clearance) → AllFit clearance_meaning ws → 1 ≤ (joined clearance_meaning ws).value
some_clearance [] fit = omega arith
some_clearance (w ∷ ws) (fit, rest) = let less = some_clearance ws rest in grind (arith, nat_tests)

pub clearance_carry : Carries clearance_meaning
clearance_carry ws few fit lost =
    let some = some_clearance ws fit in
    let none = ap (λ (w : Clearance). w.value) lost in
    omega arith
