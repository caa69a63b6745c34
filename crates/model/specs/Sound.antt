-- What shows that the definitions hang together. Each statement stands on the contract of a function. Assumes nothing.
use Rattle.std.specs.Prelude.{◌≡◌, ℕ, suc, ◌<◌, ◌≤◌, Bool, true, false, ◌&&◌, List, [], ◌∷◌, length, take, drop, Some, None, Option, nat_le, nat_lt, slice_index_or}
use Rattle.measure.specs.Meaning.{Meaning}
use Rattle.model.specs.Levels.{level_at}
use Rattle.model.specs.Networks.{network}
use Rattle.model.specs.Records.{blank_entry, blank_leg, blank_station}
use Rattle.model.specs.Sections.{ascends, placed, same_ends, weight_of, without}
use Rattle.model.specs.Tables.{Built, Lengths, filled, label_of, legs_of, station_of, used_entries, used_legs}
use Rattle.model.specs.declared.records.Entry.{Entry}
use Rattle.model.specs.declared.records.Section.{Section}

-- The sections zs have w between some ends, and between all others what ss have.
pub record DiffersAt {W : Type 0} (low high : ℕ) (w : Option W) (ss zs : List (Section W)) : Type 0 where
  pub there : weight_of low high zs ≡ w
  pub elsewhere : (l h : ℕ) → same_ends low high l h ≡ false → weight_of l h zs ≡ weight_of l h ss

-- Placing a section keeps the sections ascending, and changes just the look-up of its ends.
pub record Placing {W : Type 0} (x : Section W) (ss : List (Section W)) : Type 0 where
  pub ordered : nat_lt x.low x.high ≡ true → ascends ss ≡ true → ascends (placed x ss) ≡ true
  pub changed : DiffersAt x.low x.high (Some x.weight) ss (placed x ss)

-- So it is for every section and every list.
abbrev pub PlacingIsSound : Type 0 → Type 0
PlacingIsSound W = (x : Section W) (ss : List (Section W)) → Placing x ss

-- Removing a section from ascending sections keeps them ascending, and changes just the look-up of its ends.
pub record Removing {W : Type 0} (low high : ℕ) (ss : List (Section W)) : Type 0 where
  pub ordered : ascends ss ≡ true → ascends (without low high ss) ≡ true
  pub changed : ascends ss ≡ true → DiffersAt low high None ss (without low high ss)

-- So it is for all ends and every list.
abbrev pub RemovingIsSound : Type 0 → Type 0
RemovingIsSound W = (low high : ℕ) (ss : List (Section W)) → Removing low high ss

-- The network of any sections is the same both ways, and has no section from a station to itself.
pub record BothWays {W : Type 0} (ss : List (Section W)) : Type 0 where
  pub back : (u v : ℕ) → network ss u v ≡ network ss v u
  pub no_loop : (u : ℕ) → network ss u u ≡ None

-- So it is for every list of sections.
abbrev pub NetworkIsSymmetric : Type 0 → Type 0
NetworkIsSymmetric W = (ss : List (Section W)) → BothWays ss

-- The hubs of some entries rise, the first of them from a given number on.
abbrev pub hubs_rise : {W : Type 0} → ℕ → List (Entry W) → Bool
hubs_rise low [] = true
hubs_rise low (e ∷ es) = nat_le low e.hub && hubs_rise (suc e.hub) es

-- The legs and the label of a station lie in their tables where its record says, and the label's hubs rise.
pub record LiesThere {W : Type 0} (n : ℕ) (b : Built W) (u : ℕ) : Type 0 where
  pub legs : take (station_of n b u).legs (drop (station_of n b u).first_leg (used_legs n b)) ≡ legs_of b.rows u
  pub label : take (station_of n b u).entries (drop (station_of n b u).first_entry (used_entries n b)) ≡ label_of b.labels u
  pub rising : hubs_rise 0 (label_of b.labels u) ≡ true

-- So it is for every station whose level lies between 1 and the top.
abbrev pub PartsLieThere : Type 0 → Type 0
PartsLieThere W = (n : ℕ) (b : Built W) (u : ℕ) → u < n → 1 ≤ level_at b.levels u → level_at b.levels u ≤ b.top → LiesThere n b u

-- Behind what was built, the tables are blank.
pub record BlankBehind {W : Type 0} (m : Meaning W) (n : ℕ) (lengths : Lengths) (b : Built W) : Type 0 where
  pub stations : (i : ℕ) → n ≤ i → slice_index_or (filled m n lengths b).stations i blank_station ≡ blank_station
  pub legs : (i : ℕ) → length (used_legs n b) ≤ i → slice_index_or (filled m n lengths b).legs i (blank_leg m) ≡ blank_leg m
  pub spare : (i : ℕ) → slice_index_or (filled m n lengths b).spare i (blank_leg m) ≡ blank_leg m
  pub labels : (i : ℕ) → length (used_entries n b) ≤ i → slice_index_or (filled m n lengths b).labels i (blank_entry m) ≡ blank_entry m

-- So it is for everything that can be built, over tables of any lengths.
abbrev pub UnusedIsBlank : {W : Type 0} → Meaning W → Type 0
UnusedIsBlank {W} m = (n : ℕ) (lengths : Lengths) (b : Built W) → BlankBehind m n lengths b
