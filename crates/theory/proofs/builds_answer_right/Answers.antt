use Rattle.theory.proofs.Builds.{builds_answer_right}
use Rattle.theory.proofs.builds_answer_right.Goals as goal

pub returns : goal.returns
returns g c = builds_answer_right g.M.Measure.meaning g.met.M.Measure.lawful
