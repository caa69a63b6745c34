-- What contracts see of a `Search`: its tables, and what they show of every station. Assumes nothing.
use Rattle.std.specs.Prelude.{ℕ, List}
use Rattle.model.specs.declared.slot.Slot.{Slot}
use Rattle.queue.specs.declared.mark.Mark.{Mark}
use Rattle.queue.specs.Slots.{slots}

-- The mark bytes and the key records, lowest station first.
pub record SearchTables (R : Type 0) : Type 0 where
  pub marks : List ℕ
  pub keys : List R

-- The slots that these tables show.
abbrev pub slots_of : {R W : Type 0} → (R → W) → (ℕ → Mark) → SearchTables R → List (Slot W)
slots_of key mark t = slots key mark t.marks t.keys
