use Rattle.std.proofs.Common.{sym, arith}
use Rattle.queue.proofs.Slotting.{offer_inside, offer_outside}
use Rattle.queue.proofs.heap.Heap.offer.Goals as goal

pub returns-then-s-room-clause-answer : goal.returns-then-s-room-clause-answer
returns-then-s-room-clause-answer g c =
    sym (offer_outside g.L.Lane.key g.L.Lane.mark g.L.Order.leb c.args.marks.now c.args.keys.now c.args.s c.args.k (omega arith))

pub returns-clause-answer : goal.returns-clause-answer
returns-clause-answer g c =
    let here = offer_inside g.L.Lane.key g.L.Lane.mark g.L.Order.leb c.args.marks.now c.args.keys.now c.args.s c.args.k (omega arith) in
    cc
