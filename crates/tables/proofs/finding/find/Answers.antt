use Rattle.std.proofs.Common.{◌+◌, ◌-◌, ◌/◌, ◌<◌, length, sym, arith}
use Rattle.tables.proofs.Places.{below_place, from_place, place_within}
use Rattle.tables.proofs.finding.find.Goals as goal

pub loop-from-init : goal.loop-from-init
loop-from-init g c =
    (omega arith, omega arith, λ _. omega arith, place_within c.args.ends.low c.args.ends.high c.args.sections.now)

pub loop-from-preserved-then-comes_before : goal.loop-from-preserved-then-comes_before
loop-from-preserved-then-comes_before g c =
    let middle = c.loop-from.from + (c.loop-from.to - c.loop-from.from) / 2 in
    let below : middle < length c.args.sections.now = omega arith in (
      omega arith,
      omega arith,
      λ up. omega (arith, below_place 0 0 c.args.ends.low c.args.ends.high c.args.sections.now middle c.index-sections-middle.result up below c.index-sections-middle.is (sym c.if-comes_before.ensures)),
      c.loop-from.invariant.3,
    )

pub loop-from-preserved : goal.loop-from-preserved
loop-from-preserved g c =
    let middle = c.loop-from.from + (c.loop-from.to - c.loop-from.from) / 2 in
    let below : middle < length c.args.sections.now = omega arith in (
      omega arith,
      omega arith,
      c.loop-from.invariant.2,
      from_place c.args.ends.low c.args.ends.high c.args.sections.now middle c.index-sections-middle.result below c.index-sections-middle.is (sym c.if-comes_before.ensures),
    )
