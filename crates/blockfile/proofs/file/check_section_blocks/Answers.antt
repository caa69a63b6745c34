use Rattle.std.proofs.Common.{◌≡◌, ◌+◌, ◌-◌, ◌/◌, length, refl, Err, Some, sym, ap, ◌∙◌, arith}
use native.Mathlib.Nat.{sub-zero}
use Rattle.std.proofs.lemmas.Result.{err_from_is_err_and}
use Rattle.lists.specs.Places.{first_fault}
use Rattle.lists.proofs.Failing.{fault_more, fault_here, fault_none}
use Rattle.blockfile.specs.Blocks.{row_in}
use Rattle.blockfile.specs.Files.{block_judged, total_in, count_in}
use Rattle.blockfile.proofs.Chunks.{before_is, length_behind, at_turn}
use Rattle.blockfile.proofs.Passed.{judged_alike}
use Rattle.blockfile.proofs.file.check_section_blocks.Goals as goal

pub loop-j-init : goal.loop-j-init
loop-j-init g c =
    let file = c.args.file.now in
    let judged = block_judged c.args.reader.stations g.N.Numbers.readable c.args.reader.code file (total_in file) in
    record {
      left = omega arith;
      before = refl;
      judged = ap (λ k. first_fault judged k 0) (sym (sub-zero (length file / 512 - 1)));
    }

pub returns-in_err-check_sections : goal.returns-in_err-check_sections
returns-in_err-check_sections g c =
    let file = c.args.file.now in
    let j = c.loop-j.j in
    let turn = at_turn file c.as_chunks.result.0.now j c.as_chunks.ensures.front c.loop-j-test.true in
    let p = err_from_is_err_and c.from_residual.result c.from_residual.ensures.1 in
    let count : c.min-count.result ≡ count_in (total_in file) j = omega (arith, c.min-count.ensures, c.loop-j.invariant.left) in
    let judged = judged_alike c.args.reader.stations g.N.Numbers.readable c.args.reader.code file j count c.loop-j.invariant.before turn.block c.check_sections.ensures in
    p.1
    ∙ ap Err p.2
    ∙ sym (c.loop-j.invariant.judged
    ∙ fault_here (block_judged c.args.reader.stations g.N.Numbers.readable c.args.reader.code file (total_in file)) (length file / 512 - 1) j
    c.in_err-check_sections.field-0.0 turn.within (judged ∙ c.in_err-check_sections.was))

pub loop-j-preserved : goal.loop-j-preserved
loop-j-preserved g c =
    let file = c.args.file.now in
    let j = c.loop-j.j in
    let turn = at_turn file c.as_chunks.result.0.now j c.as_chunks.ensures.front c.loop-j-test.true in
    let count : c.min-count.result ≡ count_in (total_in file) j = omega (arith, c.min-count.ensures, c.loop-j.invariant.left) in
    let judged = judged_alike c.args.reader.stations g.N.Numbers.readable c.args.reader.code file j count c.loop-j.invariant.before turn.block c.check_sections.ensures in
    record {
      left = omega arith;
      before = ap Some (c.row_in.ensures ∙ ap (λ b. row_in b 40) turn.block) ∙ sym (before_is file (j + 1) (omega arith));
      judged = c.loop-j.invariant.judged
          ∙ fault_more (block_judged c.args.reader.stations g.N.Numbers.readable c.args.reader.code file (total_in file)) (length file / 512 - 1) j
          turn.within (judged ∙ c.in_ok-check_sections.was);
    }

pub returns : goal.returns
returns g c =
    let file = c.args.file.now in
    sym (c.loop-j.invariant.judged
    ∙ fault_none (block_judged c.args.reader.stations g.N.Numbers.readable c.args.reader.code file (total_in file)) (length file / 512 - 1) c.loop-j.j
    (omega (arith, length_behind file c.as_chunks.result.0.now c.as_chunks.ensures.front)))
