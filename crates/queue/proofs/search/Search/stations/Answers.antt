use Rattle.std.proofs.Common.{sym, ◌∙◌}
use Rattle.queue.proofs.Slotting.{slots_of_long}
use Rattle.queue.proofs.search.Search.stations.Goals as goal

pub returns : goal.returns
returns g c =
    c.min.ensures
    ∙ sym (slots_of_long g.L.Lane.key g.L.Lane.mark c.self.inside.marks.now c.self.inside.keys.now c.args.self.now c.self.view_is)
