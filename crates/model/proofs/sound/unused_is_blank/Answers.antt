use Rattle.model.proofs.Laying.{unused_is_blank}
use Rattle.model.proofs.sound.unused_is_blank.Goals as goal

pub returns : goal.returns
returns g c = unused_is_blank g.M.Measure.meaning
