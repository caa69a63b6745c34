use Rattle.theory.proofs.Climbing.{ascent_preserves}
use Rattle.theory.proofs.Weighing.{travel_laws}
use Rattle.theory.proofs.ascent_preserves.Goals as goal

pub returns : goal.returns
returns g c = ascent_preserves g.M.Measure.meaning (travel_laws g.M.Measure.meaning g.met.M.Measure.lawful)
