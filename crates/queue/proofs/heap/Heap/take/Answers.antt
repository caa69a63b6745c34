use Rattle.std.proofs.Common.{sym}
use Rattle.queue.proofs.Calls.{take_done, take_prepared, take_some, take_within}
use Rattle.queue.proofs.heap.Heap.take.Goals as goal

pub bounds-marks-s : goal.bounds-marks-s
bounds-marks-s g c =
    take_within g.met.L.Lane.lawful g.met.L.Order.lawful c.args.marks.now c.args.keys.now c.args.self.now.places
    c.requires (c.in_ok-s.s, c.in_ok-s.k) (sym (c.in_ok-s.ensures c.args.marks.now c.requires))

pub bounds-marks-s-2 : goal.bounds-marks-s-2
bounds-marks-s-2 g c =
    take_within g.met.L.Lane.lawful g.met.L.Order.lawful c.args.marks.now c.args.keys.now c.args.self.now.places
    c.requires (c.in_ok-s.s, c.in_ok-s.k) (sym (c.in_ok-s.ensures c.args.marks.now c.requires))

pub lower-requires : goal.lower-requires
lower-requires g c =
    take_some g.met.L.Lane.lawful g.met.L.Order.lawful c.args.marks.now c.args.keys.now c.args.self.now.places
    c.requires (c.in_ok-s.s, c.in_ok-s.k) (sym (c.in_ok-s.ensures c.args.marks.now c.requires))

pub sink-requires : goal.sink-requires
sink-requires g c =
    take_prepared g.met.L.Lane.lawful g.met.L.Order.lawful c.args.marks.now c.args.keys.now c.args.self.now.places
    c.requires (c.in_ok-s.s, c.in_ok-s.k) (sym (c.in_ok-s.ensures c.args.marks.now c.requires))
    c.with_mark.result c.with_mark.ensures c.lower.new.self c.lower.ensures

pub returns : goal.returns
returns g c =
    take_done g.met.L.Lane.lawful g.met.L.Order.lawful c.args.marks.now c.args.keys.now c.args.self.now.places
    c.requires (c.in_ok-s.s, c.in_ok-s.k) (sym (c.in_ok-s.ensures c.args.marks.now c.requires))
    c.with_mark.result c.with_mark.ensures c.lower.new.self c.lower.ensures c.sink.new.self.places
    c.sink.ensures.sifted c.sink.ensures.ordered
