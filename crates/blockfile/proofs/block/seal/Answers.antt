use Rattle.std.proofs.Common.{◌≡◌, ap, ◌∙◌, ap₂}
use Rattle.lists.specs.Bytes.{le}
use Rattle.lists.specs.Writes.{over}
use Rattle.blockfile.specs.Blocks.{first_check}
use Rattle.blockfile.proofs.Building.{sealed_is}
use Rattle.blockfile.proofs.block.seal.Goals as goal

pub returns : goal.returns
returns c =
    let first : c.put.new.block ≡ over c.args.block.now 508 (le 2 (first_check c.args.block.now)) =
    c.put.ensures ∙ ap (over c.args.block.now 508) (c.to_le_bytes.ensures ∙ ap (le 2) c.checks-first.ensures.first)
    in
    c.put-2.ensures
    ∙ ap₂ (λ b s. over b 510 s) first (c.to_le_bytes-2.ensures ∙ ap (le 2) c.checks-first.ensures.second)
    ∙ sealed_is c.args.block.now c.told-block
