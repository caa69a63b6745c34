use Rattle.std.proofs.Common.{set, ap, ◌∙◌}
use Rattle.tables.proofs.Gaps.{gap_made}
use Rattle.tables.proofs.shifting.insert.Goals as goal

pub returns : goal.returns
returns g c = ap (λ zs. set zs c.args.place c.args.item) c.copy_within.ensures.after ∙ gap_made c.args.records.now c.args.place c.args.item c.requires
