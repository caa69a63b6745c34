use Rattle.std.proofs.Common.{◌≡◌, ◌-◌}
use Rattle.lists.specs.Places.{first_fault}
use Rattle.blockfile.specs.Judging.{record_judged, row_before}
use Rattle.blockfile.proofs.block.Reader.check_records.Given as goal

abbrev pub invariant-loop-i : goal.invariant-loop-i
invariant-loop-i g l =
    let judged = record_judged l.self.stations g.N.Numbers.readable l.fn.place.before l.block in
    (first_fault judged l.fn.place.count 0 ≡ first_fault judged (l.fn.place.count - l.i) l.i)
    × (l.last ≡ row_before l.fn.place.before l.block l.i)
