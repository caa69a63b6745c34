use Rattle.std.proofs.Common.{◌≡◌, ◌≤◌, ◌++◌, length, drop, vec_items}
use Rattle.demo.specs.Walks.{step_weights}
use Rattle.demo.proofs.walks.steps.Given as goal

-- the weights so far and those of the steps that are left make up the whole
abbrev pub invariant-loop-next : goal.invariant-loop-next
invariant-loop-next g l =
    (l.next-index ≤ length l.rest) × (vec_items l.weights ++ step_weights g.M.Measure.meaning l.sections l.at (drop l.next-index l.rest) ≡ step_weights g.M.Measure.meaning l.sections l.start l.rest)
