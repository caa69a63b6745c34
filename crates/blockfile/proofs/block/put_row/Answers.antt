use Rattle.std.proofs.Common.{◌≡◌, ◌+◌, ◌++◌, refl, ap, ◌∙◌, ap₂, arith}
use Rattle.lists.specs.Bytes.{le}
use Rattle.lists.specs.Writes.{over}
use Rattle.lists.proofs.Digits.{le_eight}
use Rattle.lists.proofs.Writing.{over_over}
use Rattle.blockfile.proofs.block.put_row.Goals as goal

pub returns : goal.returns
returns c =
    let low = le 2 c.args.row.low in
    let high = le 2 c.args.row.high in
    let number = le 8 c.args.row.number in
    let d = c.args.block.now in
    let at = c.args.at in
    let first : c.put.new.block ≡ over d at low = c.put.ensures ∙ ap (over d at) c.to_le_bytes.ensures in
    let second : c.put-2.new.block ≡ over d at (low ++ high) =
    c.put-2.ensures ∙ ap₂ (λ b s. over b (at + 2) s) first c.to_le_bytes-2.ensures
    ∙ over_over d at (at + 2) low high (omega arith) refl
    in
    c.put-3.ensures
    ∙ ap₂ (λ b s. over b (at + 4) s) second (c.to_le_bytes-3.ensures ∙ le_eight c.args.row.number)
    ∙ over_over d at (at + 4) (low ++ high) number (omega arith) refl
