use Rattle.std.proofs.Common.{arith}
use Rattle.queue.proofs.Slotting.{slots_of_long}
use Rattle.queue.proofs.search.Search.slot.Goals as goal

pub slot_at-requires : goal.slot_at-requires
slot_at-requires g c =
    let long = slots_of_long g.L.Lane.key g.L.Lane.mark c.self.inside.marks.now c.self.inside.keys.now c.args.self.now c.self.view_is in
    (omega arith, omega arith)
