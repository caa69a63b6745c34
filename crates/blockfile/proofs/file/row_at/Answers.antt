use Rattle.std.proofs.Common.{◌≡◌, ◌%◌, sym, ap, ◌∙◌, arith}
use Rattle.blockfile.specs.Rows.{blank_row}
use Rattle.blockfile.specs.Blocks.{row_in}
use Rattle.blockfile.specs.Files.{row_of}
use Rattle.blockfile.proofs.Accepted.{length_rows, row_is}
use Rattle.blockfile.proofs.file.row_at.Goals as goal

pub returns : goal.returns
returns c =
    let file = c.args.file.now in
    let i = c.args.i in
    let place : c.row_in.result ≡ row_of file i = c.row_in.ensures ∙ ap (λ b. row_in b (i % 41)) c.block_of.ensures in
    record { place = place; listed = λ h. place ∙ sym (row_is file i blank_row (omega (arith, length_rows file))) }
