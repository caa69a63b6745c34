use Rattle.std.proofs.Common.{◌+◌, ◌*◌, Some, Ok, sym, ap, ◌∙◌, add-one, arith}
use Rattle.lists.proofs.Failing.{demand_holds, demand_fails, fault_more, fault_here, fault_none}
use Rattle.blockfile.specs.declared.fault.Flaw.TheVariants.{Record}
use Rattle.blockfile.specs.Judging.{record_judged, row_before}
use Rattle.blockfile.proofs.Passed.{good_alike}
use Rattle.blockfile.proofs.block.Reader.check_records.Goals as goal

pub returns-then-not-is_good : goal.returns-then-not-is_good
returns-then-not-is_good g c =
    let readable = g.N.Numbers.readable in
    let b = c.args.block.now in
    let place = c.loop-i.i in
    let bad = good_alike c.args.self.stations readable c.args.place.before b place c.loop-i.invariant.1 c.row_in-row.ensures c.is_good.ensures ∙ c.if-not-is_good.true in
    sym (c.loop-i.invariant.0
    ∙ fault_here (record_judged c.args.self.stations readable c.args.place.before b) c.args.place.count place (Record (8 + 12 * place)) (omega arith)
    (demand_fails _ (Record (8 + 12 * place)) (Ok tt) bad))

pub loop-i-preserved : goal.loop-i-preserved
loop-i-preserved g c =
    let readable = g.N.Numbers.readable in
    let b = c.args.block.now in
    let place = c.loop-i.i in
    let good = good_alike c.args.self.stations readable c.args.place.before b place c.loop-i.invariant.1 c.row_in-row.ensures c.is_good.ensures ∙ c.if-not-is_good.false in (
      c.loop-i.invariant.0
          ∙ fault_more (record_judged c.args.self.stations readable c.args.place.before b) c.args.place.count place (omega arith)
          (demand_holds _ (Record (8 + 12 * place)) (Ok tt) good),
      ap Some c.row_in-row.ensures ∙ ap (row_before c.args.place.before b) (sym (add-one place)),
    )

pub returns : goal.returns
returns g c =
    sym (c.loop-i.invariant.0
    ∙ fault_none (record_judged c.args.self.stations g.N.Numbers.readable c.args.place.before c.args.block.now) c.args.place.count
    c.loop-i.i (omega arith))
