-- The laws of two weights. Assumes nothing.
use Rattle.std.specs.Prelude.{true, Some, ◌==◌, refl}
use Rattle.std.proofs.Common.{sym, ap, arith}
use Rattle.std.proofs.lemmas.Bool.{eqb-true}
use Rattle.std.proofs.lemmas.Bool.Decides.{nat_tests}
use Rattle.std.proofs.lemmas.Option.{cond_some}
use Rattle.measure.specs.Meaning.{Lawful}
use Rattle.trials.specs.Reach.{reach_of, reach_meaning}
use Rattle.trials.specs.declared.reach.Reach.{Reach}

pub reach_lawful : Lawful reach_meaning
reach_lawful = record {
  total = λ a b. grind (arith, nat_tests);
  trans = λ a b c. grind (arith, nat_tests);
  antisym = λ a b p q. ap reach_of (grind (arith, nat_tests));
  assoc = λ a b c. ap reach_of (grind (arith, nat_tests));
  comm = λ a b. ap reach_of (grind (arith, nat_tests));
  free_left = λ w. refl;
  free_right = λ w. ap reach_of (grind (arith, nat_tests));
  no_way_left = λ w. refl;
  no_way_right = λ w. ap reach_of (grind (arith, nat_tests));
  mono_left = λ a b c. grind (arith, nat_tests);
  mono_right = λ a b c. grind (arith, nat_tests);
  free_best = λ w. refl;
  no_way_worst = λ w. grind (arith, nat_tests);
  no_way_unfit = refl;
  number_below = λ w h. omega arith;
  reads_back = λ w h. ap (λ b. Some (reach_of b)) (sym h);
  reads_only = λ k w e.
      let (passed, is) = cond_some (k == 1) (reach_of true) w e in
      (sym (ap (λ (v : Reach). v.passes) is), sym (eqb-true k 1 passed));
  code_low = omega arith;
  code_high = omega arith;
}
