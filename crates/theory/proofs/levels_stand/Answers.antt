use Rattle.theory.proofs.Built.{levels_stand}
use Rattle.theory.proofs.levels_stand.Goals as goal

pub returns : goal.returns
returns g c = levels_stand g.M.Measure.meaning g.met.M.Measure.lawful
