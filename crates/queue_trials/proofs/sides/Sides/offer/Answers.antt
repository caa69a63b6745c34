use Rattle.std.proofs.Common.{get_or, set, sym, ap, ◌∙◌, subst, ap₂}
use Rattle.model.specs.declared.slot.Slot.TheVariants.{Free, Waits}
use Rattle.queue.specs.Heap.{IsHeap}
use Rattle.queue.specs.Slots.{Takes}
use Rattle.queue.proofs.Slotting.{takes_passed}
use Rattle.queue_trials.proofs.Past.{forward_past_put, reverse_past_put}
use Rattle.queue_trials.proofs.sides.Sides.offer.Goals as goal

pub put-requires-2-clause-holds : goal.put-requires-2-clause-holds
put-requires-2-clause-holds g c =
    subst (IsHeap g.M.Measure.meaning.leb c.self.inside.reverse.places)
    (sym (reverse_past_put c.self.inside.marks.now c.put.new.marks c.self.inside.keys.now c.put.new.keys c.args.s c.args.k
    c.put.ensures.marks c.put.ensures.keys))
    c.self.invariant.1

pub put-requires-2-clause-takes : goal.put-requires-2-clause-takes
put-requires-2-clause-takes g c =
    subst (λ xs. Takes g.M.Measure.meaning.leb c.args.k (get_or xs c.args.s Free))
    (sym (reverse_past_put c.self.inside.marks.now c.put.new.marks c.self.inside.keys.now c.put.new.keys c.args.s c.args.k
    c.put.ensures.marks c.put.ensures.keys))
    (subst (Takes g.M.Measure.meaning.leb c.args.k) c.slot_at-else-not-takes.ensures
    (takes_passed g.M.Measure.meaning.leb c.args.k c.slot_at-else-not-takes.result
    (sym c.takes-else-not-takes.ensures ∙ c.if-not-takes-2.false)))

pub invariant_of-self-2 : goal.invariant_of-self-2
invariant_of-self-2 g c = (
  subst (IsHeap g.M.Measure.meaning.leb c.put.new.self.places)
      (sym (forward_past_put c.put.new.marks c.put-2.new.marks c.put.new.keys c.put-2.new.keys c.args.s c.args.k
      c.put-2.ensures.marks c.put-2.ensures.keys))
      c.put.ensures.holds,
  c.put-2.ensures.holds,
)

pub returns : goal.returns
returns g c =
    ap₂ (λ x y. (x, y))
    (forward_past_put c.put.new.marks c.put-2.new.marks c.put.new.keys c.put-2.new.keys c.args.s c.args.k
    c.put-2.ensures.marks c.put-2.ensures.keys
    ∙ c.put.ensures.view ∙ ap (λ v. set v.0 c.args.s (Waits c.args.k)) c.self.view_is)
    (c.put-2.ensures.view
    ∙ ap (λ xs. set xs c.args.s (Waits c.args.k))
    (reverse_past_put c.self.inside.marks.now c.put.new.marks c.self.inside.keys.now c.put.new.keys c.args.s c.args.k
    c.put.ensures.marks c.put.ensures.keys)
    ∙ ap (λ v. set v.1 c.args.s (Waits c.args.k)) c.self.view_is)
