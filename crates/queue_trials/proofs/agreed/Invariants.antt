use Rattle.std.proofs.Common.{◌*◌, ◌≤◌}
use Rattle.queue_trials.proofs.agreed.Given as goal

abbrev pub invariant-loop : goal.invariant-loop
invariant-loop l = l.sum ≤ 250 * l.counter
