use Rattle.theory.proofs.Built.{queries_agree}
use Rattle.theory.proofs.queries_agree.Goals as goal

pub returns : goal.returns
returns g c = queries_agree g.M.Measure.meaning g.met.M.Measure.lawful
