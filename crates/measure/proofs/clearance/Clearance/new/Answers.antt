use Rattle.std.proofs.Common.{sym, arith}
use Rattle.std.proofs.lemmas.Bool.Decides.{nat_tests}
use Rattle.measure.specs.Readings.{read_passes}
use Rattle.measure.specs.ClearanceLaws.{clearance_same}
use Rattle.measure.proofs.clearance.Clearance.new.Goals as goal

pub returns : goal.returns
returns c = sym (read_passes _ _ _ (grind (arith, nat_tests)) (clearance_same _ _ (omega arith)))
