use Rattle.std.proofs.Common.{◌≡◌, get_or, sym, rules, tests}
use Rattle.std.proofs.lemmas.Iterator.{first_from_Range}
use Rattle.blockfile.proofs.Unused.{unused_none, unused_some}
use Rattle.blockfile.proofs.block.check_unused.Goals as goal

pub returns-in-None : goal.returns-in-None
returns-in-None c =
    let b = c.args.block.now in
    sym (unused_none b c.args.start c.find.result
    (first_from_Range _ _ _ c.find.result (λ k. get_or b k 0 ≡ 0 → ⊥) (λ k. get_or b k 0 ≡ 0) c.find.ensures.ran
    (λ x q k. search (rules, tests)) (λ x q k. search (rules, tests)))
    c.in-None.is)

pub returns-in-Some : goal.returns-in-Some
returns-in-Some c =
    let b = c.args.block.now in
    sym (unused_some b c.args.start c.find.result c.in-Some.at
    (first_from_Range _ _ _ c.find.result (λ k. get_or b k 0 ≡ 0 → ⊥) (λ k. get_or b k 0 ≡ 0) c.find.ensures.ran
    (λ x q k. search (rules, tests)) (λ x q k. search (rules, tests)))
    c.in-Some.is)
