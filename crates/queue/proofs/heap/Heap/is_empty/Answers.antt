use Rattle.std.proofs.Common.{◌∙◌}
use Rattle.queue.proofs.Taking.{empty_is}
use Rattle.queue.proofs.heap.Heap.is_empty.Goals as goal

pub returns : goal.returns
returns g c xs heap =
    empty_is g.L.Order.leb g.met.L.Order.lawful c.args.self.now.places xs heap c.len.result
    (c.len.ensures xs heap ∙ heap.listed.counted)
