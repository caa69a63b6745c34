use Rattle.std.proofs.Common.{◌≤◌}
use Rattle.queue_trials.proofs.trial.play.Given as goal

abbrev pub invariant-loop : goal.invariant-loop
invariant-loop l = l.agreed ≤ l.counter
