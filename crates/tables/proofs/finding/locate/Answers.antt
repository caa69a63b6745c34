use Rattle.std.proofs.Common.{sym, ap, ◌∙◌}
use Rattle.tables.specs.Finding.{has_at}
use Rattle.tables.proofs.Places.{has_at_place, has_at_within}
use Rattle.tables.proofs.finding.locate.Goals as goal

pub returns-then-has_at-clause-within : goal.returns-then-has_at-clause-within
returns-then-has_at-clause-within g c = has_at_within c.find-place.result c.args.ends.low c.args.ends.high c.args.sections.now (sym c.has_at.ensures ∙ c.if-has_at.true)

pub returns-then-has_at-clause-known : goal.returns-then-has_at-clause-known
returns-then-has_at-clause-known g c = λ up.
    let low = c.args.ends.low in
    let high = c.args.ends.high in
    let ss = c.args.sections.now in
    sym c.if-has_at.true ∙ c.has_at.ensures ∙ ap (λ p. has_at p low high ss) (c.find-place.ensures.first up) ∙ has_at_place 0 0 low high ss up

pub returns-else-has_at-clause-known : goal.returns-else-has_at-clause-known
returns-else-has_at-clause-known g c = λ up.
    let low = c.args.ends.low in
    let high = c.args.ends.high in
    let ss = c.args.sections.now in
    sym c.if-has_at.false ∙ c.has_at.ensures ∙ ap (λ p. has_at p low high ss) (c.find-place.ensures.first up) ∙ has_at_place 0 0 low high ss up
