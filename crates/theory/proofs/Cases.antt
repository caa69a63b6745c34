-- The worked cases, by computation. Assumes nothing.
use Rattle.std.proofs.Common.{refl}
use Rattle.blockfile.specs.Blocks.{plain_sum, weighted_sum}
use Rattle.model.specs.Levels.{best_below, climb, picking, row_count, sum_below}
use Rattle.model.specs.Lists.{stretch}
use Rattle.model.specs.Queries.{plain_search, two_sided}
use Rattle.model.specs.Slots.{least_from}
use Rattle.model.specs.Tables.{descend, downward, emitted, laid, over_legs}
use Rattle.theory.specs.Worked.{WorkedCases}

pub worked_cases : WorkedCases
unfolding stretch least_from row_count sum_below picking best_below climb emitted over_legs descend laid downward plain_search two_sided plain_sum weighted_sum
worked_cases =
    record {
      levels = refl;
      residual_3 = refl;
      residual_4 = refl;
      label_0 = refl;
      label_2 = refl;
      query_0_5 = refl;
      query_2_4 = refl;
      legs_12 = refl;
      legs_11 = refl;
      entries_14 = refl;
      threshold_50 = refl;
      threshold_49 = refl;
      plain_0_5 = refl;
      path_0_3 = refl;
      clearance_1_4 = refl;
      clearance_1_3 = refl;
      apart_2 = refl;
      apart_1 = refl;
      alone = refl;
      header_end = refl;
    }
