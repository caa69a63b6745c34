use Rattle.theory.proofs.Cases.{worked_cases}
use Rattle.theory.proofs.worked_cases_hold.Goals as goal

pub returns : goal.returns
returns c = worked_cases
