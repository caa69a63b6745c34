use Rattle.std.proofs.Common.{◌≤◌}
use Rattle.queue_trials.proofs.tests.take_all.Given as goal

abbrev pub invariant-loop : goal.invariant-loop
invariant-loop l = l.n ≤ l.counter
