use Rattle.std.proofs.Common.{length}
use Rattle.queue.proofs.Views.{heap_blank}
use Rattle.queue.proofs.heap.Heap.over.Goals as goal

pub returns : goal.returns
returns g c =
    heap_blank g.L.Lane.key g.L.Lane.mark g.L.Order.leb g.met.L.Lane.lawful.blank c.new.result.places
    (length c.args.marks.now) c.fill.new.self c.args.keys.now c.new.ensures
    (c.fill.ensures.after (λ y e. e))
