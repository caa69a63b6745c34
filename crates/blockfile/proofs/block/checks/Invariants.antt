use Rattle.std.proofs.Common.{◌≡◌, ◌+◌, ◌-◌, ◌*◌, ◌≤◌}
use Rattle.blockfile.specs.Blocks.{plain_sum, weighted_sum}
use Rattle.blockfile.proofs.block.checks.Given as goal

abbrev pub invariant-loop-word : goal.invariant-loop-word
invariant-loop-word l =
    record {
      plain : l.plain ≡ plain_sum l.block l.word-index;
      weighted : weighted_sum l.block l.word-index ≡ l.weighted + (254 - l.word-index) * l.plain;
      plain_fits : l.plain ≤ 65535 * l.word-index;
      weighted_fits : l.weighted ≤ 16645890 * l.word-index;
    }
