use Rattle.std.proofs.Common.{◌-◌, length, set, ap, ◌∙◌}
use Rattle.tables.proofs.Gaps.{gap_closed}
use Rattle.tables.proofs.shifting.remove.Goals as goal

pub returns : goal.returns
returns g c =
    ap (λ zs. set zs (length c.args.records.now - 1) c.args.blank) c.copy_within.ensures.after
    ∙ gap_closed c.args.records.now c.args.place c.args.blank c.requires
