use Rattle.std.proofs.Common.{arith}
use Rattle.queue.proofs.Views.{heap_none}
use Rattle.queue.proofs.heap.Heap.new.Goals as goal

pub returns : goal.returns
returns g c n = heap_none g.L.Order.leb _ n (omega arith)
