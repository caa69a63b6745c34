use Rattle.std.proofs.Common.{length, refl, ap₂}
use Rattle.queue.specs.Lanes.{forward_key, reverse_key}
use Rattle.queue.specs.Marks.{high_mark, low_mark}
use Rattle.queue.proofs.Views.{heap_blank}
use Rattle.queue_trials.proofs.sides.Sides.new.Goals as goal

pub invariant_of-result : goal.invariant_of-result
invariant_of-result g c =
    let blank = c.fill.ensures.after (λ y e. e) in (
      (heap_blank forward_key low_mark g.M.Measure.meaning.leb refl c.new.result.places (length c.args.marks.now)
          c.fill.new.self c.args.keys.now c.new.ensures blank).holds,
      (heap_blank reverse_key high_mark g.M.Measure.meaning.leb refl c.new-2.result.places (length c.args.marks.now)
          c.fill.new.self c.args.keys.now c.new-2.ensures blank).holds,
    )

pub returns : goal.returns
returns g c =
    let blank = c.fill.ensures.after (λ y e. e) in
    ap₂ (λ x y. (x, y))
    (heap_blank forward_key low_mark g.M.Measure.meaning.leb refl c.new.result.places (length c.args.marks.now)
    c.fill.new.self c.args.keys.now c.new.ensures blank).view
    (heap_blank reverse_key high_mark g.M.Measure.meaning.leb refl c.new-2.result.places (length c.args.marks.now)
    c.fill.new.self c.args.keys.now c.new-2.ensures blank).view
