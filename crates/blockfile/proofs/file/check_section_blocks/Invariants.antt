use Rattle.std.proofs.Common.{◌≡◌, ◌-◌, ◌*◌, ◌/◌, length}
use Rattle.lists.specs.Places.{first_fault}
use Rattle.blockfile.specs.Files.{block_judged, before_block, sections_of_file_judged, total_in}
use Rattle.blockfile.proofs.file.check_section_blocks.Given as goal

abbrev pub invariant-loop-j : goal.invariant-loop-j
invariant-loop-j g l =
    let judged = block_judged l.reader.stations g.N.Numbers.readable l.reader.code l.file (total_in l.file) in
    record {
      left : l.left ≡ total_in l.file - 41 * l.j;
      before : l.before ≡ before_block l.file l.j;
      judged : sections_of_file_judged l.reader.stations g.N.Numbers.readable l.reader.code l.file ≡ first_fault judged ((length l.file / 512 - 1) - l.j) l.j;
    }
