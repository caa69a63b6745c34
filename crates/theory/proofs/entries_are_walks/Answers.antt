use Rattle.theory.proofs.Covering.{entries_are_walks}
use Rattle.theory.proofs.Weighing.{travel_laws}
use Rattle.theory.proofs.entries_are_walks.Goals as goal

pub returns : goal.returns
returns g c = entries_are_walks g.M.Measure.meaning (travel_laws g.M.Measure.meaning g.met.M.Measure.lawful)
