use Rattle.model.proofs.Ordering.{placing_is_sound}
use Rattle.model.proofs.sound.placing_is_sound.Goals as goal

pub returns : goal.returns
returns g c = placing_is_sound
