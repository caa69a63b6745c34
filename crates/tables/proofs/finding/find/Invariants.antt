use Rattle.std.proofs.Common.{◌≡◌, ◌-◌, ◌≤◌, true, length}
use Rattle.model.specs.Sections.{ascends, place_of}
use Rattle.tables.proofs.finding.find.Given as goal

-- the place lies between the two bounds
abbrev pub invariant-loop-from : goal.invariant-loop-from
invariant-loop-from g l =
    (l.from ≤ l.to) × (l.to ≤ length l.sections)
    × (ascends l.sections ≡ true → l.from ≤ place_of l.ends.low l.ends.high l.sections)
    × (place_of l.ends.low l.ends.high l.sections ≤ l.to)

abbrev pub decreases-loop-from : goal.decreases-loop-from
decreases-loop-from g l = l.to - l.from
