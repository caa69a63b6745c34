use Rattle.std.proofs.Common.{◌≡◌, ◌+◌, true, ◌++◌, take, drop, set, Some, sym, ap, ◌∙◌, ap₂, arith}
use Rattle.std.specs.List.{insert}
use Rattle.model.specs.Sections.{ascends}
use Rattle.tables.specs.Amending.{Placing, section_of}
use Rattle.tables.proofs.Amendments.{placing_new, placing_there}
use Rattle.tables.proofs.Gaps.{all_but_last}
use Rattle.tables.proofs.Padding.{placing_padded}
use Rattle.tables.proofs.amending.place_section.Goals as goal

pub returns-in-Ok : goal.returns-in-Ok
returns-in-Ok g c =
    let xs = c.args.table.now in
    let n = c.args.count in
    let place = c.in-Ok.place in
    let x = section_of c.args.ends.low c.args.ends.high c.args.weight in
    let after = set xs place c.section_of-section.result in
    let whole : (ascends (take n xs) ≡ true → Placing xs n x (Some n) after) = λ up.
    let (count, written) = placing_there xs n x place c.requires (c.in-Ok.ensures.first up) (sym c.in-Ok.ensures.there) in
    (count, ap (λ y. set xs place y) c.section_of-section.ensures ∙ written) in
    record { padded = placing_padded xs n x (Some n) after whole; whole = whole }

pub returns-in-Err-2 : goal.returns-in-Err-2
returns-in-Err-2 g c =
    let xs = c.args.table.now in
    let n = c.args.count in
    let place = c.in-Err.field-0 in
    let x = section_of c.args.ends.low c.args.ends.high c.args.weight in
    let after = c.insert.new.records ++ drop (n + 1) xs in
    let there = c.insert.ensures ∙ ap₂ (λ ss y. insert ss place y) (all_but_last xs n (omega arith)) c.section_of-section.ensures in
    let whole : (ascends (take n xs) ≡ true → Placing xs n x (Some (n + 1)) after) = λ up.
    let (count, shifted) = placing_new xs n x place (omega arith) (c.in-Err.ensures.first up) (sym c.in-Err.ensures.there) in
    (count, ap (λ ss. ss ++ drop (n + 1) xs) there ∙ shifted) in
    record { padded = placing_padded xs n x (Some (n + 1)) after whole; whole = whole }
