use Rattle.queue.proofs.Layouts.{layout_exchanged}
use Rattle.queue.proofs.places.Places.exchange.Goals as goal

pub invariant_of-self-clause-layout : goal.invariant_of-self-clause-layout
invariant_of-self-clause-layout c =
    layout_exchanged c.args.self.now.items c.args.self.now.at c.swap.new.self c.args.i c.args.j
    c.station_at-a.result c.station_at-b.result c.args.self.now.layout c.requires.0 c.requires.1
    c.swap.ensures.by_index c.swap.ensures.len c.station_at-a.ensures c.station_at-b.ensures
