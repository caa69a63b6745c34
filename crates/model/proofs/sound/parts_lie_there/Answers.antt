use Rattle.model.proofs.Laying.{parts_lie_there}
use Rattle.model.proofs.sound.parts_lie_there.Goals as goal

pub returns : goal.returns
returns g c = parts_lie_there
