use Rattle.theory.proofs.Stopped.{stop_is_right}
use Rattle.theory.proofs.Weighing.{travel_laws}
use Rattle.theory.proofs.stop_is_right.Goals as goal

pub returns : goal.returns
returns g c = stop_is_right g.M.Measure.meaning (travel_laws g.M.Measure.meaning g.met.M.Measure.lawful)
