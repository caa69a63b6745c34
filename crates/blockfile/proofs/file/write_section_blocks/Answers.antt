use Rattle.std.proofs.Common.{◌≡◌, ◌+◌, ◌*◌, length, drop, sym, ap, ap₂, ◌∙◌, arith, take-append-drop, length-drop}
use Rattle.lists.specs.Writes.{over}
use Rattle.lists.proofs.Writing.{put_mid_over}
use Rattle.blockfile.specs.Blocks.{section_block}
use Rattle.blockfile.specs.Files.{chunk, section_part}
use Rattle.blockfile.proofs.Chunks.{blocks_more, length_chunk, length_section_block, next_chunk}
use Rattle.blockfile.proofs.file.write_section_blocks.Goals as goal

pub loop-j-init : goal.loop-j-init
unfolding section_part
loop-j-init c =
    let d = c.args.buffer.now in
    let rows = c.args.rows.now in
    let count : c.into_iter-j-iterator.result.count ≡ 0 = cc in
    let rest : c.into_iter-j-iterator.result.iter.rest.now ≡ rows = cc in
    record {
      size = cc;
      rest = rest ∙ ap (λ k. drop (41 * k) rows) (sym count);
      count = omega arith;
      buffer = sym (ap (λ k. over d 512 (section_part c.args.code rows k)) count ∙ take-append-drop 512 d);
    }

pub loop-j-preserved : goal.loop-j-preserved
loop-j-preserved c =
    let steps = c.in-Some.ensures.steps in
    let d = c.args.buffer.now in
    let code = c.args.code in
    let rows = c.args.rows.now in
    let now = c.loop-j.j-iterator in
    let j = now.count in
    let next = next_chunk rows j now.iter.size now.iter.rest.now c.in-Some.rows.now c.next.new.self.iter.rest.now c.loop-j.invariant.size c.loop-j.invariant.rest steps.0.1.0 steps.0.1.1 in
    let out = c.write_sections.new.out in
    let block = c.write_sections.ensures ∙ ap₂ (λ k part. section_block code (k + 1) part) steps.1 next.taken in
    record {
      size = steps.0.0 ∙ c.loop-j.invariant.size;
      rest = next.left ∙ ap (λ k. drop (41 * k) rows) (sym steps.2);
      count = omega (arith, ap length c.loop-j.invariant.rest, length-drop (41 * j) rows);
      buffer = put_mid_over ((c.in-Some.j + 1) * 512) _ c.loop-j.buffer out (omega (arith, ap length block, length_section_block code (j + 1) (chunk j rows) (omega (arith, length_chunk j rows))))
          ∙ ap (λ k. over c.loop-j.buffer ((k + 1) * 512) out) steps.1
          ∙ blocks_more d code rows j c.loop-j.buffer out (omega arith) c.loop-j.invariant.buffer block
          ∙ ap (λ k. over d 512 (section_part code rows k)) (sym steps.2);
    }
