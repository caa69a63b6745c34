use Rattle.std.proofs.Common.{◌≡◌, ◌*◌, ◌≤◌, length, drop}
use Rattle.lists.specs.Writes.{over}
use Rattle.blockfile.specs.Judging.{blocks_for}
use Rattle.blockfile.specs.Files.{section_part}
use Rattle.blockfile.proofs.file.write_section_blocks.Given as goal

abbrev pub invariant-loop-j : goal.invariant-loop-j
invariant-loop-j l =
    record {
      size : l.j-iterator.iter.size ≡ 41;
      rest : l.j-iterator.iter.rest.now ≡ drop (41 * l.j-iterator.count) l.rows;
      count : l.j-iterator.count ≤ blocks_for (length l.rows);
      buffer : l.buffer ≡ over l.initial.buffer 512 (section_part l.code l.rows l.j-iterator.count);
    }
