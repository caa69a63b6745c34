-- The laws of trips. Assumes nothing.
use Rattle.std.specs.Prelude.{◌≡◌, ℕ, ◌+◌, ◌*◌, ◌/◌, ◌%◌, ◌<◌, ◌≤◌, Bool, true, ◌&&◌, List, [], ◌∷◌, length, Some, nat_le, refl}
use Rattle.std.proofs.Common.{ap, ap₂, ◌∙◌, arith, mod-eq_of_lt, zero-add, lit<}
use mathlib.Core.HLevel.{is_prop→PathP, ×₃_prop, →_prop}
use Rattle.std.proofs.Math.Bridge.{le_prop}
use Rattle.std.proofs.Math.Nat.{add-mul-div_left, add-mul-mod_self_left, div-eq_of_lt, mod-add-div}
use Rattle.std.proofs.lemmas.Bool.{and_parts}
use Rattle.std.proofs.lemmas.Bool.Decides.{nat_tests}
use Rattle.std.proofs.lemmas.Option.{cond_some}
use Rattle.measure.specs.Readings.{read_passes}
use Rattle.measure.specs.Meaning.{Lawful, AllFit, Carries, joined}
use Rattle.measure.specs.Ticks.{ticks_top, fit_ticks}
use Rattle.measure.specs.Trip.{transfers_top, transfer_unit, trip_of, trip_meaning}
use Rattle.measure.specs.declared.trip.Trip.{Trip}

-- two trips of as many ticks and transfers are one
pub trip_same : (a b : Trip) → a.ticks ≡ b.ticks → a.transfers ≡ b.transfers → a ≡ b
trip_same a b e f = λ i. record {
  ticks = e i;
  transfers = f i;
  ok = is_prop→PathP (λ j. (e j ≤ ticks_top) × (f j ≤ transfers_top) × (ticks_top ≤ e j → transfers_top ≤ f j)) (λ j. ×₃_prop le_prop le_prop (→_prop le_prop)) a.ok b.ok i;
}

-- ticks below the unit and the transfers above it come out of their sum again
low_part : (t x : ℕ) → t < transfer_unit → (t + transfer_unit * x) % transfer_unit ≡ t
low_part t x h = add-mul-mod_self_left t transfer_unit x ∙ mod-eq_of_lt h

high_part : (t x : ℕ) → t < transfer_unit → (t + transfer_unit * x) / transfer_unit ≡ x
high_part t x h = add-mul-div_left t x (lit< tt) ∙ ap (λ n. n + x) (div-eq_of_lt h) ∙ zero-add x

-- what a number's two parts must pass to be read
readable : ℕ → ℕ → Bool
readable t x = fit_ticks t && nat_le x transfers_top

-- a fit trip's number reads back as that trip
trip_reads_back : (w : Trip) → fit_ticks w.ticks ≡ true → trip_meaning.reading (trip_meaning.number w) ≡ Some w
unfolding readable
trip_reads_back w h =
    let below : w.ticks < transfer_unit = omega arith in
    let passes : readable w.ticks w.transfers ≡ true = grind (arith, nat_tests) in
    rw (low_part w.ticks w.transfers below, high_part w.ticks w.transfers below)
    (read_passes (readable w.ticks w.transfers) (trip_of w.ticks w.transfers) w passes
    (trip_same _ _ (omega arith) (grind (arith, nat_tests))))

-- a number that reads as a trip is that trip's number, and the trip is fit
trip_reads_only : (k : ℕ) (w : Trip) → trip_meaning.reading k ≡ Some w → (fit_ticks w.ticks ≡ true) × (trip_meaning.number w ≡ k)
unfolding readable
trip_reads_only k w e =
    let t = k % transfer_unit in
    let x = k / transfer_unit in
    let (passed, is) = cond_some (readable t x) (trip_of t x) w e in
    let ticks : w.ticks ≡ t = let stopped = ap (λ (v : Trip). v.ticks) is in grind (arith, nat_tests) in
    let transfers : w.transfers ≡ x = let stopped = ap (λ (v : Trip). v.transfers) is in grind (arith, nat_tests) in (
      ap fit_ticks ticks ∙ (and_parts (fit_ticks t) (nat_le x transfers_top) passed).0,
      ap₂ (λ a b. a + transfer_unit * b) ticks transfers ∙ mod-add-div k transfer_unit,
    )

pub trip_lawful : Lawful trip_meaning
trip_lawful = record {
  total = λ a b. grind (arith, nat_tests);
  trans = λ a b c. grind (arith, nat_tests);
  antisym = λ a b p q. trip_same a b (grind (arith, nat_tests)) (grind (arith, nat_tests));
  assoc = λ a b c. trip_same _ _ (omega arith) (grind (arith, nat_tests));
  comm = λ a b. trip_same _ _ (omega arith) (grind (arith, nat_tests));
  free_left = λ w. trip_same _ _ (omega arith) (grind (arith, nat_tests));
  free_right = λ w. trip_same _ _ (omega arith) (grind (arith, nat_tests));
  no_way_left = λ w. trip_same _ _ (omega arith) (grind (arith, nat_tests));
  no_way_right = λ w. trip_same _ _ (omega arith) (grind (arith, nat_tests));
  mono_left = λ a b c. grind (arith, nat_tests);
  mono_right = λ a b c. grind (arith, nat_tests);
  free_best = λ w. grind (arith, nat_tests);
  no_way_worst = λ w. grind (arith, nat_tests);
  no_way_unfit = refl;
  number_below = λ w h. grind (arith, nat_tests);
  reads_back = trip_reads_back;
  reads_only = trip_reads_only;
  code_low = omega arith;
  code_high = omega arith;
}

-- each fit weight adds a million ticks at most
few_ticks : (ws : List Trip) → AllFit trip_meaning ws → (joined trip_meaning ws).ticks ≤ 1000000 * length ws
few_ticks [] fit = omega arith
few_ticks (w ∷ ws) (fit, rest) = let less = few_ticks ws rest in grind (arith, nat_tests)

pub trip_carry : Carries trip_meaning
trip_carry ws few fit lost =
    let less = few_ticks ws fit in
    let top = ap (λ (w : Trip). w.ticks) lost in
    omega arith
