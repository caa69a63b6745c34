use Rattle.theory.proofs.Covering.{labels_cover}
use Rattle.theory.proofs.Weighing.{travel_laws}
use Rattle.theory.proofs.labels_cover.Goals as goal

pub returns : goal.returns
returns g c = labels_cover g.M.Measure.meaning (travel_laws g.M.Measure.meaning g.met.M.Measure.lawful)
