use Rattle.queue.proofs.Sides.{sides_apart}
use Rattle.queue.proofs.lanes.sides_apart.Goals as goal

pub returns : goal.returns
returns g c = sides_apart _
