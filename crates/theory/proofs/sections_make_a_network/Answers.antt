use Rattle.theory.proofs.Builds.{sections_make_a_network}
use Rattle.theory.proofs.sections_make_a_network.Goals as goal

pub returns : goal.returns
returns g c = sections_make_a_network
