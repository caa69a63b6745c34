use Rattle.std.proofs.Common.{◌+◌, ◌*◌, get_or, refl, ap, ◌∙◌, arith}
use Rattle.lists.specs.Writes.{over}
use Rattle.blockfile.specs.Rows.{blank_row}
use Rattle.blockfile.specs.Blocks.{entry_of}
use Rattle.blockfile.proofs.Building.{entries_more}
use Rattle.blockfile.proofs.block.put_rows.Goals as goal

pub loop-place-preserved : goal.loop-place-preserved
loop-place-preserved c =
    let i = c.loop-place.place in
    let row = get_or c.args.rows.now i blank_row in
    c.put_row.ensures
    ∙ ap (λ b. over b (8 + 12 * i) (entry_of row)) c.loop-place.invariant
    ∙ entries_more c.args.block.now c.args.rows.now i row (omega arith) c.loop-place-test.true refl
