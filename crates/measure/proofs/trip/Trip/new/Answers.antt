use Rattle.std.proofs.Common.{sym, arith}
use Rattle.std.proofs.lemmas.Bool.Decides.{nat_tests}
use Rattle.measure.specs.Readings.{read_passes}
use Rattle.measure.specs.TripLaws.{trip_same}
use Rattle.measure.proofs.trip.Trip.new.Goals as goal

pub returns : goal.returns
returns c = sym (read_passes _ _ _ (grind (arith, nat_tests)) (trip_same _ _ (omega arith) (grind (arith, nat_tests))))
