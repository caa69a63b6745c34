use Rattle.std.proofs.Common.{◌≡◌, [], ◌++◌, refl, ap, ◌∙◌, ap₂, arith}
use Rattle.lists.specs.Bytes.{le}
use Rattle.lists.specs.Writes.{over, filled}
use Rattle.lists.proofs.Digits.{le_four}
use Rattle.lists.proofs.Writing.{filled_over}
use Rattle.blockfile.specs.Blocks.{front, header_front}
use Rattle.blockfile.proofs.Building.{built}
use Rattle.blockfile.proofs.block.write_header.Goals as goal

pub returns : goal.returns
returns c =
    let start = front (header_front c.args.code) in
    let stations = le 2 c.args.n in
    let total = le 4 c.args.total in
    let first : c.put_in.new.block ≡ filled 512 start = c.put_in.ensures ∙ ap (λ f. over (filled 512 []) 0 (front f)) c.of_header.ensures ∙ filled_over 512 0 [] start refl in
    let second : c.put.new.block ≡ filled 512 (start ++ stations) =
    c.put.ensures ∙ ap₂ (λ b s. over b 8 s) first c.to_le_bytes.ensures ∙ filled_over 512 8 start stations refl
    in
    let third : c.put-2.new.block ≡ filled 512 ((start ++ stations) ++ total) =
    c.put-2.ensures ∙ ap₂ (λ b s. over b 10 s) second (c.to_le_bytes-2.ensures ∙ le_four c.args.total)
    ∙ filled_over 512 10 (start ++ stations) total refl
    in
    c.copy_from_slice.ensures.after ∙ c.seal.ensures ∙ built c.put-2.new.block (start ++ (stations ++ total)) third (omega arith)
