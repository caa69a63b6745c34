use Rattle.std.proofs.Common.{◌≡◌, take}
use Rattle.std.specs.List.{flat_map}
use Rattle.lists.specs.Writes.{over}
use Rattle.blockfile.specs.Blocks.{entry_of}
use Rattle.blockfile.proofs.block.put_rows.Given as goal

abbrev pub invariant-loop-place : goal.invariant-loop-place
invariant-loop-place l = l.block ≡ over l.initial.block 8 (flat_map entry_of (take l.place l.rows))
