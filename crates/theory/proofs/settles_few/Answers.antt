use Rattle.theory.proofs.Counting.{settles_few}
use Rattle.theory.proofs.Weighing.{travel_laws}
use Rattle.theory.proofs.settles_few.Goals as goal

pub returns : goal.returns
returns g c = settles_few g.M.Measure.meaning (travel_laws g.M.Measure.meaning g.met.M.Measure.lawful)
