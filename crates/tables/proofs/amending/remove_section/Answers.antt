use Rattle.std.proofs.Common.{◌≡◌, ◌-◌, true, [], ◌∷◌, ◌++◌, take, drop, sym, ap, ◌∙◌}
use Rattle.std.proofs.lemmas.List.{append_assoc}
use Rattle.std.specs.List.{remove}
use Rattle.model.specs.Sections.{ascends}
use Rattle.tables.specs.Amending.{Removing}
use Rattle.tables.proofs.Amendments.{removing_none, removing_there}
use Rattle.tables.proofs.Padding.{removing_padded}
use Rattle.tables.proofs.amending.remove_section.Goals as goal

pub returns-in_default : goal.returns-in_default
returns-in_default g c =
    let xs = c.args.table.now in
    let n = c.args.count in
    let low = c.args.ends.low in
    let high = c.args.ends.high in
    let blank = c.args.blank in
    let whole : (ascends (take n xs) ≡ true → Removing xs n low high blank n xs) = λ up.
    removing_none xs n low high blank c.requires (sym (c.in_default.ensures.known up)) in
    record { padded = removing_padded xs n low high blank n xs c.requires whole; whole = whole }

pub returns : goal.returns
returns g c =
    let xs = c.args.table.now in
    let n = c.args.count in
    let low = c.args.ends.low in
    let high = c.args.ends.high in
    let blank = c.args.blank in
    let place = c.in-Ok.place in
    let after = c.remove.new.records ++ drop n xs in
    let whole : (ascends (take n xs) ≡ true → Removing xs n low high blank (n - 1) after) = λ up.
    let (count, shifted) = removing_there xs n low high blank place c.requires (c.in-Ok.ensures.first up) (sym c.in-Ok.ensures.there) in
    (count, ap (λ ss. ss ++ drop n xs) c.remove.ensures ∙ append_assoc (remove (take n xs) place) (blank ∷ []) (drop n xs) ∙ shifted) in
    record { padded = removing_padded xs n low high blank (n - 1) after c.requires whole; whole = whole }
