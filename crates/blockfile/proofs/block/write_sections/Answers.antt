use Rattle.std.proofs.Common.{◌≡◌, [], ◌++◌, length, refl, ap, ◌∙◌, arith}
use Rattle.std.specs.List.{flat_map}
use Rattle.lists.specs.Writes.{over, filled}
use Rattle.lists.proofs.Writing.{filled_over}
use Rattle.blockfile.specs.Blocks.{front, section_front, entry_of}
use Rattle.blockfile.proofs.Building.{built, length_entries}
use Rattle.blockfile.proofs.block.write_sections.Goals as goal

pub returns : goal.returns
returns c =
    let rows = c.args.rows.now in
    let start = front (section_front c.args.number (length rows) c.args.code) in
    let first : c.put_in.new.block ≡ filled 512 start = c.put_in.ensures ∙ ap (λ f. over (filled 512 []) 0 (front f)) c.of_sections.ensures ∙ filled_over 512 0 [] start refl in
    let second : c.put_rows.new.block ≡ filled 512 (start ++ flat_map entry_of rows) =
    c.put_rows.ensures ∙ ap (λ b. over b 8 (flat_map entry_of rows)) first ∙ filled_over 512 8 start (flat_map entry_of rows) refl
    in
    c.copy_from_slice.ensures.after ∙ c.seal.ensures
    ∙ built c.put_rows.new.block (start ++ flat_map entry_of rows) second (omega (arith, length_entries rows))
