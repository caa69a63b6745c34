use Rattle.std.proofs.Common.{◌≡◌, ◌≤◌, length, drop}
use Rattle.model.specs.Sections.{weight_of}
use Rattle.model.proofs.lookup.weight_between.Given as goal

-- what is left of the sections decides
abbrev pub invariant-loop-section : goal.invariant-loop-section
invariant-loop-section g l =
    (l.section-index ≤ length l.sections) × (weight_of l.low l.high (drop l.section-index l.sections) ≡ weight_of l.low l.high l.sections)
