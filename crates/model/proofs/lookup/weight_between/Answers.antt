use Rattle.std.proofs.Common.{sym, ◌∙◌, ap₂, arith}
use Rattle.std.proofs.lemmas.List.{at_drop_all}
use Rattle.std.proofs.lemmas.Bool.{cond-false, cond-true}
use Rattle.model.specs.Sections.{weight_of}
use Rattle.model.proofs.Lookups.{weight_of_more}
use Rattle.model.proofs.lookup.weight_between.Goals as goal

pub returns-then-has_ends : goal.returns-then-has_ends
returns-then-has_ends g c =
    let more = weight_of_more c.low-low.result c.high-high.result c.args.sections.now c.loop-section.section-index c.section-item.result c.loop-section-test.true c.section-item.is in
    let ends = ap₂ (λ l h. weight_of l h c.args.sections.now) c.low-low.ensures c.high-high.ensures in
    sym (cond-true _ _ _ (sym c.if-has_ends.ensures)) ∙ sym more ∙ c.loop-section.invariant.1 ∙ ends

pub loop-section-preserved : goal.loop-section-preserved
loop-section-preserved g c =
    let more = weight_of_more c.low-low.result c.high-high.result c.args.sections.now c.loop-section.section-index c.section-item.result c.loop-section-test.true c.section-item.is in
    (omega arith, sym (cond-false _ _ _ (sym c.if-has_ends.ensures)) ∙ sym more ∙ c.loop-section.invariant.1)

pub returns : goal.returns
returns g c =
    let left = at_drop_all (weight_of c.low-low.result c.high-high.result) c.args.sections.now c.loop-section.section-index c.loop-section-test.false in
    let ends = ap₂ (λ l h. weight_of l h c.args.sections.now) c.low-low.ensures c.high-high.ensures in
    sym left ∙ c.loop-section.invariant.1 ∙ ends
