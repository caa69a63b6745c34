use Rattle.std.proofs.Common.{sym, ap, ◌∙◌, subst, ap₂}
use Rattle.model.specs.Slots.{least}
use Rattle.queue.specs.Heap.{IsHeap}
use Rattle.queue.specs.Slots.{slots_settled}
use Rattle.queue_trials.proofs.Past.{forward_past_take, reverse_past_take}
use Rattle.queue_trials.proofs.sides.Sides.take.Goals as goal

pub take-back-requires : goal.take-back-requires
take-back-requires g c =
    subst (IsHeap g.M.Measure.meaning.leb c.self.inside.reverse.places)
    (sym (reverse_past_take c.self.inside.marks.now c.take-ahead.new.marks c.self.inside.keys.now c.take-ahead.result
    c.take-ahead.ensures.marks))
    c.self.invariant.1

pub invariant_of-self : goal.invariant_of-self
invariant_of-self g c = (
  subst (IsHeap g.M.Measure.meaning.leb c.take-ahead.new.self.places)
      (sym (forward_past_take c.take-ahead.new.marks c.take-back.new.marks c.self.inside.keys.now c.take-back.result
      c.take-back.ensures.marks))
      c.take-ahead.ensures.holds,
  c.take-back.ensures.holds,
)

pub returns-clause-back : goal.returns-clause-back
returns-clause-back g c =
    c.take-back.ensures.first
    ∙ ap (least g.M.Measure.meaning.leb)
    (reverse_past_take c.self.inside.marks.now c.take-ahead.new.marks c.self.inside.keys.now c.take-ahead.result
    c.take-ahead.ensures.marks)
    ∙ ap (λ v. least g.M.Measure.meaning.leb v.1) c.self.view_is

pub returns-clause-view : goal.returns-clause-view
returns-clause-view g c =
    ap₂ (λ x y. (x, y))
    (forward_past_take c.take-ahead.new.marks c.take-back.new.marks c.self.inside.keys.now c.take-back.result
    c.take-back.ensures.marks
    ∙ c.take-ahead.ensures.view ∙ ap (λ v. slots_settled c.take-ahead.result v.0) c.self.view_is)
    (c.take-back.ensures.view
    ∙ ap (slots_settled c.take-back.result)
    (reverse_past_take c.self.inside.marks.now c.take-ahead.new.marks c.self.inside.keys.now c.take-ahead.result
    c.take-ahead.ensures.marks)
    ∙ ap (λ v. slots_settled c.take-back.result v.1) c.self.view_is)
