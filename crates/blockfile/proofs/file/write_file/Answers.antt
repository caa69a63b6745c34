use Rattle.std.proofs.Common.{◌≡◌, ◌+◌, ◌*◌, true, leb, ◌++◌, length, drop, Ok, Err, sym, ap, ◌∙◌, arith}
use Rattle.std.proofs.lemmas.Bool.{and_from, le-leb, cond-true}
use Rattle.lists.specs.Writes.{over}
use Rattle.blockfile.specs.declared.fault.FileFault.TheVariants.{Length}
use Rattle.blockfile.specs.Judging.{blocks_for}
use Rattle.blockfile.specs.Files.{file_of, file_size, has_room, whole_blocks, section_part}
use Rattle.blockfile.proofs.Chunks.{file_over, length_header}
use Rattle.blockfile.proofs.Kept.{reads_back}
use Rattle.blockfile.proofs.file.write_file.Goals as goal

pub returns : goal.returns
returns c =
    let d = c.args.buffer.now in
    let rows = c.args.rows.now in
    let room : has_room (length d) (length rows) ≡ true =
    and_from (whole_blocks (length d)) (leb (file_size (length rows)) (length d))
    (sym c.is_whole.ensures ∙ c.if-not-is_whole.false) (le-leb (file_size (length rows)) (length d) (omega arith))
    in
    let long : 0 + length c.write_header.new.out ≡ 512 = omega (arith, ap length c.write_header.ensures, length_header c.args.n c.args.code (length rows)) in
    let written : c.write_section_blocks.new.buffer ≡ over d 0 (file_of c.args.n c.args.code rows) =
    c.write_section_blocks.ensures
    ∙ ap (λ b. over b 512 (section_part c.args.code rows (blocks_for (length rows)))) (ap (λ k. c.write_header.new.out ++ drop k d) (sym long) ∙ ap (over d 0) c.write_header.ensures)
    ∙ file_over c.args.n c.args.code d rows
    in
    record {
      answer =
          ap (λ k. Ok (512 * (1 + k))) c.section_blocks.ensures
          ∙ sym (cond-true (has_room (length d) (length rows)) (Ok (file_size (length rows))) (Err Length) room);
      buffer = written
          ∙ sym (cond-true (has_room (length d) (length rows)) (over d 0 (file_of c.args.n c.args.code rows)) d room);
      reads_back = reads_back c.args.n c.args.code rows d c.write_section_blocks.new.buffer c.section_blocks.result c.ranges.n.fits c.requires c.section_blocks.ensures written;
    }
