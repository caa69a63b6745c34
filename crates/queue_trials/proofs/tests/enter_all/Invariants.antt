use Rattle.std.proofs.Common.{◌≤◌}
use Rattle.queue_trials.proofs.tests.enter_all.Given as goal

abbrev pub invariant-loop-s : goal.invariant-loop-s
invariant-loop-s l = l.n ≤ l.s
