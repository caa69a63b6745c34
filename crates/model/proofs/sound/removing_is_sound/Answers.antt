use Rattle.model.proofs.Ordering.{removing_is_sound}
use Rattle.model.proofs.sound.removing_is_sound.Goals as goal

pub returns : goal.returns
returns g c = removing_is_sound
