-- One side of a search. Assumes nothing.
use Rattle.std.specs.Prelude.{◌≡◌, ℕ, ◌<◌, Bool, true, false, ◌⊎◌, List, [], ◌∷◌, length, Some, Option, slice_index_or}
use Rattle.measure.specs.Meaning.{Meaning}
use Rattle.model.specs.Networks.{Best, Net, Walk, cost}
use Rattle.model.specs.Queries.{plain_query}
use Rattle.model.specs.Slots.{is_settled, key_of}
use Rattle.model.specs.declared.slot.Slot.{Slot}
use Rattle.model.specs.declared.slot.Slot.TheVariants.{Free, Settled, Waits}
use Rattle.model.specs.Tables.{leg}
use Rattle.model.specs.declared.records.Leg.{Leg}
use Rattle.theory.specs.Laws.{NoWorse}

-- The key of a slot, no way where it has none.
abbrev pub keyed : {W : Type 0} → Meaning W → Slot W → W
keyed m Free = m.no_way
keyed m (Waits w) = w
keyed m (Settled w) = w

-- What is known of a station.
abbrev pub slot_at : {W : Type 0} → List (Slot W) → ℕ → Slot W
slot_at xs x = slice_index_or xs x Free

-- The key of a station.
abbrev pub key_at : {W : Type 0} → Meaning W → List (Slot W) → ℕ → W
key_at m xs x = keyed m (slot_at xs x)

-- Whether a station is settled.
abbrev pub done_at : {W : Type 0} → List (Slot W) → ℕ → Bool
done_at xs x = is_settled (slot_at xs x)

-- A weight that comes from a seed and a walk on from it.
pub record FromSeed {W : Type 0} (m : Meaning W) (G : Net W) (seed : ℕ → Option W) (x : ℕ) (k : W) : Type 0 where
  pub start : ℕ
  pub weight : W
  pub is_seed : seed start ≡ Some weight
  pub walk : Walk G x start
  pub whole : k ≡ m.join weight (cost m walk)

-- A side of a search, whatever it was seeded with: seeds are keyed no worse; a settled station's neighbours are keyed no
-- worse than over it; no settled station is keyed worse than one that is not; and every key comes from a seed and a walk.
pub record Side {W : Type 0} (m : Meaning W) (n : ℕ) (G : Net W) (seed : ℕ → Option W) (xs : List (Slot W)) : Type 0 where
  pub long : length xs ≡ n
  pub seeded : (x : ℕ) (a : W) → seed x ≡ Some a → NoWorse m (key_at m xs x) a
  pub relaxed : (x u : ℕ) (a : W) → done_at xs x ≡ true → G x u ≡ Some a → NoWorse m (key_at m xs u) (m.join (key_at m xs x) a)
  pub in_order : (x z : ℕ) → done_at xs x ≡ true → done_at xs z ≡ false → NoWorse m (key_at m xs x) (key_at m xs z)
  pub real : (x : ℕ) (k : W) → key_of (slot_at xs x) ≡ Some k → FromSeed m G seed x k

-- A network's sections join stations below n.
abbrev pub Bounded : {W : Type 0} → ℕ → Net W → Type 0
Bounded {W} n G = (u v : ℕ) (a : W) → G u v ≡ Some a → (u < n) × (v < n)

-- The plain query answers the best among all walks.
abbrev pub PlainIsRight : {W : Type 0} → Meaning W → Type 0
PlainIsRight {W} m = (n : ℕ) (G : Net W) → Bounded n G → (s t : ℕ) → s < n → t < n → Best m G s t (plain_query m n G s t).cost

-- Something stands in a list.
abbrev pub Mem : {A : Type 0} → A → List A → Type 0
Mem x [] = ⊥
Mem x (y ∷ ys) = (x ≡ y) ⊎ Mem x ys

-- Some legs are the sections of a station v: each is one, to a station below n, and each is among them.
pub record LegsOf {W : Type 0} (n : ℕ) (G : Net W) (v : ℕ) (legs : List (Leg W)) : Type 0 where
  pub sections : (l : Leg W) → Mem l legs → (l.to < n) × (G v l.to ≡ Some l.weight)
  pub all : (u : ℕ) (a : W) → G v u ≡ Some a → Mem (leg v u a) legs
