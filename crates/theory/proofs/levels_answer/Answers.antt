use Rattle.theory.proofs.Built.{levels_answer}
use Rattle.theory.proofs.levels_answer.Goals as goal

pub returns : goal.returns
returns g c = levels_answer g.M.Measure.meaning g.met.M.Measure.lawful
