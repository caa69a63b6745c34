-- What each side sees past a put or a take of the other side.
use Rattle.std.proofs.Common.{◌≡◌, ℕ, List, Option}
use Rattle.model.specs.declared.records.Key.{Key}
use Rattle.queue.specs.declared.mark.Mark.TheVariants.{Waiting}
use Rattle.queue.specs.Lanes.{forward_key, forward_keyed, reverse_key, reverse_keyed}
use Rattle.queue.specs.Marks.{high_mark, high_marked, low_mark, low_marked}
use Rattle.queue.specs.Slots.{marks_settled, slots, with_key, with_mark}
use Rattle.queue.proofs.Sides.{past_put, past_take, sides_apart}

module _ {W : Type 0} (bs bs' : List ℕ) (rs rs' : List (Key W)) (s : ℕ) (k : W) where
  pub forward_past_put : bs' ≡ with_mark high_marked bs s Waiting → rs' ≡ with_key reverse_keyed rs s k
      → slots forward_key low_mark bs' rs' ≡ slots forward_key low_mark bs rs
  forward_past_put = past_put forward_key low_mark reverse_keyed high_marked (sides_apart W).0 bs bs' rs rs' s Waiting k

  pub reverse_past_put : bs' ≡ with_mark low_marked bs s Waiting → rs' ≡ with_key forward_keyed rs s k
      → slots reverse_key high_mark bs' rs' ≡ slots reverse_key high_mark bs rs
  reverse_past_put = past_put reverse_key high_mark forward_keyed low_marked (sides_apart W).1 bs bs' rs rs' s Waiting k

module _ {W : Type 0} (bs bs' : List ℕ) (rs : List (Key W)) (found : Option (ℕ × W)) where
  pub forward_past_take : bs' ≡ marks_settled high_marked found bs → slots forward_key low_mark bs' rs ≡ slots forward_key low_mark bs rs
  forward_past_take = past_take forward_key low_mark reverse_keyed high_marked (sides_apart W).0 bs bs' rs found

  pub reverse_past_take : bs' ≡ marks_settled low_marked found bs → slots reverse_key high_mark bs' rs ≡ slots reverse_key high_mark bs rs
  reverse_past_take = past_take reverse_key high_mark forward_keyed low_marked (sides_apart W).1 bs bs' rs found
