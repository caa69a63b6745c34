use Rattle.std.proofs.Common.{◌∙◌, ap₂, arith, rules}
use Rattle.std.proofs.lemmas.Bool.Decides.{nat_tests}
use Rattle.tables.specs.Finding.{has_at}
use Rattle.tables.proofs.Places.{has_at_past, has_at_read}
use Rattle.tables.proofs.finding.has_at.Goals as goal

pub returns-in_default : goal.returns-in_default
returns-in_default g c = has_at_past c.args.place c.args.ends.low c.args.ends.high c.args.sections.now (grind (arith, nat_tests))

pub returns : goal.returns
returns g c =
    let ss = c.args.sections.now in
    c.has_ends.ensures
    ∙ has_at_read c.args.place c.low.result c.high.result ss c.in-Some.section.now (grind (arith, nat_tests)) (search rules)
    ∙ ap₂ (λ low high. has_at c.args.place low high ss) c.low.ensures c.high.ensures
