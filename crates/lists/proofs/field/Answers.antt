use Rattle.std.proofs.Common.{◌≡◌, ◌-◌, ◌++◌, length, replicate, take, drop, sym, ap, ap₂, ◌∙◌, arith, w64}
use Rattle.std.specs.Int.{from_le_bytes}
use Rattle.std.proofs.ByRecursion.{All-take, All-drop}
use Rattle.std.proofs.lemmas.List.{drop-replicate}
use Rattle.lists.specs.Bytes.{value}
use Rattle.lists.proofs.Cuts.{part_is, length_part}
use Rattle.lists.proofs.Digits.{number_padded, value_lt, bytes_from_get_or}
use Rattle.lists.proofs.field.Goals as goal

pub returns : goal.returns
returns c =
    let block = c.args.block.now in
    let part = take c.args.width (drop c.args.at block) in
    let bytes = bytes_from_get_or block (λ i. (c.type_inv.block i).fits) in
    let long = length_part c.args.width c.args.at block c.requires.within in
    let padded : c.copy_from_slice.new.self ++ drop c.args.width (replicate 8 0) ≡ part ++ replicate (8 - length part) 0 =
    ap₂ (λ x y. x ++ y) (c.copy_from_slice.ensures.after ∙ part_is c.args.width c.args.at block)
    (drop-replicate c.args.width 8 0 ∙ ap (λ k. replicate (8 - k) 0) (sym long))
    in
    let value : c.from_le_bytes.result ≡ value c.args.width block c.args.at =
    number_padded part c.from_le_bytes.result (omega arith) (All-take _ c.args.width (drop c.args.at block) (All-drop _ c.args.at block bytes))
    (omega arith) (c.from_le_bytes.ensures ∙ ap (from_le_bytes w64) padded)
    in
    let below = value_lt c.args.width block c.args.at bytes c.requires.within in
    record { value = value; below = omega arith }
