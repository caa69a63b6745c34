use Rattle.std.proofs.Common.{◌≡◌, ◌+◌, ◌/◌, ◌<◌, length, take, sym, refl, ap, ◌∙◌, ap₂, arith}
use Rattle.std.proofs.lemmas.List.{length-take-le}
use Rattle.blockfile.specs.Blocks.{plain_sum, weighted_sum, word}
use Rattle.blockfile.proofs.Sums.{plain_more, weighted_step, word_is}
use Rattle.blockfile.proofs.block.checks.Goals as goal

pub loop-word-init : goal.loop-word-init
unfolding plain_sum weighted_sum
loop-word-init c = record { plain = refl; weighted = refl; plain_fits = omega arith; weighted_fits = omega arith }

pub loop-word-preserved : goal.loop-word-preserved
loop-word-preserved c =
    let b = c.args.block.now in
    let j = c.loop-word.word-index in
    let half : length (take 508 b) / 2 ≡ 254 = ap (λ n. n / 2) (length-take-le 508 b (omega arith)) in
    let within : j < 254 = omega (arith, c.as_chunks.ensures.front_len ∙ half) in
    let w : c.from-plain.result ≡ word b j =
    c.from-plain.ensures ∙ c.from_le_bytes.ensures ∙ word_is b c.as_chunks.result.0.now _ j _ c.told-block half within c.as_chunks.ensures.front
    in
    record {
      plain = ap₂ (λ x y. x + y) c.loop-word.invariant.plain w ∙ sym (plain_more b j);
      weighted = weighted_step b j c.loop-word.plain c.loop-word.weighted c.from-plain.result within w c.loop-word.invariant.weighted;
      plain_fits = omega arith;
      weighted_fits = omega arith;
    }
