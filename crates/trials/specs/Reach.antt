-- The measure of two weights. Assumes nothing.
use Rattle.std.specs.Prelude.{Bool, true, false, cond, not, ◌&&◌, ◌||◌, Some, None, ◌==◌}
use Rattle.measure.specs.Meaning.{Meaning}
use Rattle.trials.specs.declared.reach.Reach.{Reach}

-- Whether there is a way.
abbrev pub reach_of : Bool → Reach
reach_of b = record { passes = b }

-- A way is better than none, two ways make a way, and only a way is fit.
abbrev pub reach_meaning : Meaning Reach
reach_meaning = record {
  leb = λ a b. a.passes || not b.passes;
  join = λ a b. reach_of (a.passes && b.passes);
  free = reach_of true;
  no_way = reach_of false;
  fit = λ w. w.passes;
  number = λ w. 1;
  reading = λ k. cond (k == 1) (Some (reach_of true)) None;
  code = 255;
}
