-- The ledger: what the arguments of the calls alone say of an index, and which calls are refused. Assumes nothing.
use Rattle.std.specs.Prelude.{ℕ, min, max, Bool, true, false, cond, not, ◌&&◌, ◌||◌, List, [], ◌∷◌, length, is_some, Some, None, Option, ◌==◌, nat_le, nat_lt}
use Rattle.measure.specs.Meaning.{Meaning}
use Rattle.model.specs.Levels.{Climbed, climbed, residual_count}
use Rattle.model.specs.Lists.{by_some}
use Rattle.model.specs.Networks.{network}
use Rattle.model.specs.Sections.{placed, weight_of, without}
use Rattle.model.specs.Tables.{Lengths, build_refusal}
use Rattle.model.specs.declared.records.Section.{Section}
use Rattle.model.specs.declared.refusal.Refusal.{Refusal}
use Rattle.model.specs.declared.refusal.Refusal.TheVariants.{Unfit, NoStation, EqualEnds, UnfitWeight, NoSection, SectionsFull, Stale, FileLength}

-- A build that was accepted: the sections it was made of, and its settings.
pub record Basis (W : Type 0) : Type 0 where
  pub sections : List (Section W)
  pub height : ℕ
  pub threshold : ℕ

-- What the calls so far say: the stations and the tables' lengths, the sections, the residual stations of the last
-- accepted build, that build, and whether the index is current.
pub record Ledger (W : Type 0) : Type 0 where
  pub n : ℕ
  pub lengths : Lengths
  pub sections : List (Section W)
  pub residual : ℕ
  pub last : Option (Basis W)
  pub current : Bool

-- The ledger of a new index.
abbrev pub opened : {W : Type 0} → ℕ → Lengths → Ledger W
opened n lengths = record { n = n; lengths = lengths; sections = []; residual = 0; last = None; current = false }

-- The number of stations and the tables' lengths fit: 1 to 2,048 stations, room for each of them where that is needed,
-- no table above its limit, and as many spare legs as legs.
abbrev pub parts_fit : ℕ → Lengths → Bool
parts_fit n l =
    (nat_le 1 n && nat_le n 2048) && ((nat_le n l.stations && nat_le n l.marks) && ((nat_le n l.keys && nat_le l.sections 16384)
    && ((nat_le l.legs 65536 && nat_le l.legs l.spare) && nat_le l.labels 262144)))

-- Of several causes the first that holds.
abbrev pub first_cause : List (Bool × Refusal) → Option Refusal
first_cause [] = None
first_cause (c ∷ cs) = cond c.0 (Some c.1) (first_cause cs)

-- The index has unfit parts.
abbrev pub unfit : {W : Type 0} → Ledger W → Bool × Refusal
unfit l = (not (parts_fit l.n l.lengths), Unfit)

-- A call names a station that is not there.
abbrev pub no_station : {W : Type 0} → Ledger W → ℕ → ℕ → Bool × Refusal
no_station l u v = (nat_le l.n u || nat_le l.n v, NoStation)

-- A call names one station for both ends.
abbrev pub equal_ends : ℕ → ℕ → Bool × Refusal
equal_ends u v = ((u == v), EqualEnds)

-- The index is stale.
abbrev pub stale : {W : Type 0} → Ledger W → Bool × Refusal
stale l = (not l.current, Stale)

-- The weight that the ledger has between two stations.
abbrev pub present_weight : {W : Type 0} → Ledger W → ℕ → ℕ → Option W
present_weight l u v = weight_of (min u v) (max u v) l.sections

-- Why a set is refused.
abbrev pub set_refusal : {W : Type 0} → Meaning W → Ledger W → ℕ → ℕ → W → Option Refusal
set_refusal m l u v w =
    first_cause
    (unfit l ∷ no_station l u v ∷ equal_ends u v ∷ (not (m.fit w), UnfitWeight)
    ∷ (not (is_some (present_weight l u v)) && nat_le l.lengths.sections (length l.sections), SectionsFull) ∷ [])

-- Why a close is refused.
abbrev pub close_refusal : {W : Type 0} → Ledger W → ℕ → ℕ → Option Refusal
close_refusal l u v = first_cause (unfit l ∷ no_station l u v ∷ equal_ends u v ∷ (not (is_some (present_weight l u v)), NoSection) ∷ [])

-- Why a plain query is refused.
abbrev pub plain_refusal : {W : Type 0} → Ledger W → ℕ → ℕ → Option Refusal
plain_refusal l s t = first_cause (unfit l ∷ no_station l s t ∷ [])

-- Why an indexed query is refused.
abbrev pub query_refusal : {W : Type 0} → Ledger W → ℕ → ℕ → Option Refusal
query_refusal l s t = first_cause (unfit l ∷ no_station l s t ∷ stale l ∷ [])

-- Why the level or the label of a station is refused: as an indexed query from it to itself.
abbrev pub lookup_refusal : {W : Type 0} → Ledger W → ℕ → Option Refusal
lookup_refusal l s = query_refusal l s s

-- Why a write is refused, where the buffer may not hold the file.
abbrev pub write_refusal : {W : Type 0} → Ledger W → Bool → Option Refusal
write_refusal l too_short = first_cause (unfit l ∷ (too_short, FileLength) ∷ [])

-- What a file says: its first fault, or its sections.
pub data Says (W : Type 0) : Type 0 where
  faulty : Refusal → Says W
  holds : List (Section W) → Says W

-- Why a read is refused: unfit parts, then the file's own fault, then more sections than the table holds.
abbrev pub read_refusal : {W : Type 0} → Ledger W → Says W → Option Refusal
read_refusal l (faulty r) = first_cause (unfit l ∷ (true, r) ∷ [])
read_refusal l (holds ss) = first_cause (unfit l ∷ (nat_lt l.lengths.sections (length ss), SectionsFull) ∷ [])

-- The climb of a build over the ledger's network.
abbrev pub ledger_climb : {W : Type 0} → Meaning W → Ledger W → ℕ → ℕ → Climbed W
ledger_climb m l height threshold = climbed m l.n (network l.sections) height threshold

-- The ledger with other sections, which makes the index stale.
abbrev pub amended : {W : Type 0} → Ledger W → List (Section W) → Ledger W
amended l ss = record { n = l.n; lengths = l.lengths; sections = ss; residual = l.residual; last = l.last; current = false }

-- The ledger after a build of this basis that left so many residual stations.
abbrev pub rebuilt : {W : Type 0} → Ledger W → ℕ → ℕ → ℕ → Ledger W
rebuilt l residual height threshold =
    record {
      n = l.n;
      lengths = l.lengths;
      sections = l.sections;
      residual = residual;
      last = Some (record { sections = l.sections; height = height; threshold = threshold });
      current = true;
    }

-- The calls that may change an index, with their arguments.
pub data Amendment (W : Type 0) : Type 0 where
  set : ℕ → ℕ → W → Amendment W
  close : ℕ → ℕ → Amendment W
  read : Says W → Amendment W
  build : ℕ → ℕ → Amendment W

-- Why a build is refused: unfit parts, or tables that are too short for it.
abbrev pub rebuild_refusal : {W : Type 0} → Meaning W → Ledger W → ℕ → ℕ → Option Refusal
rebuild_refusal m l height threshold =
    by_some (first_cause (unfit l ∷ [])) (build_refusal m l.n l.lengths (ledger_climb m l height threshold)) Some

-- Why a call that may change an index is refused.
abbrev pub refusal_of : {W : Type 0} → Meaning W → Ledger W → Amendment W → Option Refusal
refusal_of m l (set u v w) = set_refusal m l u v w
refusal_of m l (close u v) = close_refusal l u v
refusal_of m l (read says) = read_refusal l says
refusal_of m l (build height threshold) = rebuild_refusal m l height threshold

-- The sections that a file holds.
abbrev pub sections_said : {W : Type 0} → Says W → List (Section W)
sections_said (faulty r) = []
sections_said (holds ss) = ss

-- The ledger after an accepted call.
abbrev pub accepted : {W : Type 0} → Meaning W → Ledger W → Amendment W → Ledger W
accepted m l (set u v w) = amended l (placed (record { low = min u v; high = max u v; weight = w }) l.sections)
accepted m l (close u v) = amended l (without (min u v) (max u v) l.sections)
accepted m l (read says) = amended l (sections_said says)
accepted m l (build height threshold) = rebuilt l (residual_count l.n (ledger_climb m l height threshold)) height threshold

-- The ledger after a refused call: as it was, but a build that the tables were too short for leaves the index stale.
abbrev pub refused : {W : Type 0} → Ledger W → Amendment W → Ledger W
refused l (set u v w) = l
refused l (close u v) = l
refused l (read says) = l
refused l (build height threshold) = cond (unfit l).0 l (amended l l.sections)

-- The ledger after a call.
abbrev pub ledger_step : {W : Type 0} → Meaning W → Ledger W → Amendment W → Ledger W
ledger_step m l call = by_some (refusal_of m l call) (accepted m l call) (λ _. refused l call)
