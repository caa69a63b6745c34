-- The tables of a built index, from the levels of its stations and their rows. Assumes nothing.
use Rattle.std.specs.Prelude.{ℕ, zero, suc, ◌+◌, ◌-◌, Bool, false, cond, ◌||◌, List, [], ◌∷◌, ◌++◌, length, Some, None, Option, ◌==◌, nat_lt}
use Rattle.measure.specs.Meaning.{Meaning}
use Rattle.model.specs.Levels.{Grid, Climbed, row, look, better_some, final_levels, level_at}
use Rattle.model.specs.Lists.{stretch, tab, padded, by_some}
use Rattle.model.specs.Records.{blank_entry, blank_leg, blank_station}
use Rattle.model.specs.declared.records.Entry.{Entry}
use Rattle.model.specs.declared.records.Leg.{Leg}
use Rattle.model.specs.declared.records.Station.{Station}
use Rattle.model.specs.declared.refusal.Refusal.{Refusal}
use Rattle.model.specs.declared.refusal.Refusal.TheVariants.{LegsFull, LabelsFull}

-- The parts of the stations in a given order, one behind the other.
unfoldable pub laid : {A : Type 0} → (ℕ → List A) → List ℕ → List A
laid part [] = []
laid part (u ∷ us) = part u ++ laid part us

-- Where the part of a station begins: behind the parts of those before it.
unfoldable pub begins : {A : Type 0} → (ℕ → List A) → List ℕ → ℕ → ℕ
begins part [] v = 0
begins part (u ∷ us) v = cond (u == v) 0 (length (part u) + begins part us v)

-- A part that is empty begins nowhere, which is written as 0.
abbrev pub begins_or_0 : {A : Type 0} → (ℕ → List A) → List ℕ → ℕ → ℕ
begins_or_0 part us v = cond (length (part v) == 0) 0 (begins part us v)

-- The stations of one level, ascending.
abbrev pub stations_at : ℕ → List ℕ → ℕ → List ℕ
stations_at n levels level = stretch n (λ u. cond (level_at levels u == level) (u ∷ []) [])

-- The stations in the order of the leg table: level by level from 1 up to the top, each ascending.
unfoldable pub upward : ℕ → List ℕ → ℕ → List ℕ
upward n levels zero = []
upward n levels (suc level) = upward n levels level ++ stations_at n levels (suc level)

-- The stations in the order of the label table: level by level from the top down to 1, each ascending.
unfoldable pub downward : ℕ → List ℕ → ℕ → List ℕ
downward n levels zero = []
downward n levels (suc level) = stations_at n levels (suc level) ++ downward n levels level

-- What a row from station v on makes, one record for each weight that it has.
unfoldable pub emitted : {A W : Type 0} → (ℕ → W → A) → ℕ → List (Option W) → List A
emitted make v [] = []
emitted make v (None ∷ cells) = emitted make (suc v) cells
emitted make v (Some a ∷ cells) = make v a ∷ emitted make (suc v) cells

-- A leg.
abbrev pub leg : {W : Type 0} → ℕ → ℕ → W → Leg W
leg u v a = record { from = u; to = v; weight = a }

-- The legs of a station: its row in its level's network, by the other end.
abbrev pub legs_of : {W : Type 0} → Grid W → ℕ → List (Leg W)
legs_of g u = emitted (leg u) 0 (row g u)

-- An entry.
abbrev pub entry : {W : Type 0} → ℕ → W → Entry W
entry w d = record { hub = w; weight = d }

-- The label of a station, by hub.
abbrev pub label_of : {W : Type 0} → Grid W → ℕ → List (Entry W)
label_of labels v = emitted entry 0 (row labels v)

-- A station's own entry.
abbrev pub own_entry : {W : Type 0} → Meaning W → ℕ → ℕ → Option W
own_entry m v w = cond (v == w) (Some m.free) None

-- The best weight for hub w over some legs, each joined to the entry of its other end, and over what was found so far.
unfoldable pub over_legs : {W : Type 0} → Meaning W → Grid W → ℕ → Option W → List (Leg W) → Option W
over_legs m labels w found [] = found
over_legs m labels w found (l ∷ ls) =
    over_legs m labels w (better_some m found (by_some (look labels l.to w) None (λ d. Some (m.join l.weight d)))) ls

-- The label weights of a station below the top, from the labels of the stations that its legs lead to.
abbrev pub label_row : {W : Type 0} → Meaning W → ℕ → Grid W → Grid W → ℕ → List (Option W)
label_row m n rows labels v = tab n (λ w. over_legs m labels w (own_entry m v w) (legs_of rows v))

-- The labels of the residual stations: each has its own entry only.
abbrev pub top_labels : {W : Type 0} → Meaning W → ℕ → List ℕ → ℕ → Grid W
top_labels m n levels top = tab n (λ v. cond (level_at levels v == top) (tab n (own_entry m v)) [])

-- The labels of all stations, from those above: levels are gone through from the highest down to 1.
unfoldable pub descend : {W : Type 0} → Meaning W → ℕ → List ℕ → Grid W → ℕ → Grid W → Grid W
descend m n levels rows zero labels = labels
descend m n levels rows (suc level) labels =
    descend m n levels rows level (tab n (λ v. cond (level_at levels v == suc level) (label_row m n rows labels v) (row labels v)))

-- The labels that levels up to a top and the stations' rows give.
abbrev pub labels_by : {W : Type 0} → Meaning W → ℕ → List ℕ → Grid W → ℕ → Grid W
labels_by m n levels rows top = descend m n levels rows (top - 1) (top_labels m n levels top)

-- What a build fills in: levels up to the top, the stations' rows, and their labels.
pub record Built (W : Type 0) : Type 0 where
  pub top : ℕ
  pub levels : List ℕ
  pub rows : Grid W
  pub labels : Grid W

-- What levels up to a top and the stations' rows give, however the levels were picked.
abbrev pub built_by : {W : Type 0} → Meaning W → ℕ → ℕ → List ℕ → Grid W → Built W
built_by m n top levels rows = record { top = top; levels = levels; rows = rows; labels = labels_by m n levels rows top }

-- What a climb gives.
abbrev pub built : {W : Type 0} → Meaning W → ℕ → Climbed W → Built W
built m n c = built_by m n c.top (final_levels n c) c.stage.rows

-- The leg table's records in use: below the top each station's legs, then each residual section from both its ends.
abbrev pub used_legs : {W : Type 0} → ℕ → Built W → List (Leg W)
used_legs n b = laid (legs_of b.rows) (upward n b.levels b.top)

-- The label table's records in use.
abbrev pub used_entries : {W : Type 0} → ℕ → Built W → List (Entry W)
used_entries n b = laid (label_of b.labels) (downward n b.levels b.top)

-- The record of a station.
abbrev pub station_of : {W : Type 0} → ℕ → Built W → ℕ → Station
station_of n b u =
    record {
      level = level_at b.levels u;
      first_leg = begins_or_0 (legs_of b.rows) (upward n b.levels b.top) u;
      legs = length (legs_of b.rows u);
      first_entry = begins (label_of b.labels) (downward n b.levels b.top) u;
      entries = length (label_of b.labels u);
    }

-- Some number of a list is above a limit.
abbrev pub some_above : ℕ → List ℕ → Bool
some_above limit [] = false
some_above limit (d ∷ ds) = nat_lt limit d || some_above limit ds

-- The lengths of an index's tables.
pub record Lengths : Type 0 where
  pub stations : ℕ
  pub marks : ℕ
  pub keys : ℕ
  pub sections : ℕ
  pub legs : ℕ
  pub spare : ℕ
  pub labels : ℕ

-- Why a build is refused, if it is: some stage asks for more legs than the table has, or there are more entries than records.
abbrev pub build_refusal : {W : Type 0} → Meaning W → ℕ → Lengths → Climbed W → Option Refusal
build_refusal m n lengths c =
    cond (some_above lengths.legs c.demands) (Some LegsFull)
    (cond (nat_lt lengths.labels (length (used_entries n (built m n c)))) (Some LabelsFull) None)

-- The tables that a build fills.
pub record Filled (W : Type 0) : Type 0 where
  pub stations : List Station
  pub legs : List (Leg W)
  pub spare : List (Leg W)
  pub labels : List (Entry W)

-- Those tables with nothing in them.
abbrev pub emptied : {W : Type 0} → Meaning W → Lengths → Filled W
emptied m lengths =
    record {
      stations = padded lengths.stations blank_station [];
      legs = padded lengths.legs (blank_leg m) [];
      spare = padded lengths.spare (blank_leg m) [];
      labels = padded lengths.labels (blank_entry m) [];
    }

-- Those tables with what was built, and blanks behind it; the spare legs are blank.
abbrev pub filled : {W : Type 0} → Meaning W → ℕ → Lengths → Built W → Filled W
filled m n lengths b =
    record {
      stations = padded lengths.stations blank_station (tab n (station_of n b));
      legs = padded lengths.legs (blank_leg m) (used_legs n b);
      spare = padded lengths.spare (blank_leg m) [];
      labels = padded lengths.labels (blank_entry m) (used_entries n b);
    }

-- The tables after a build of a climb: filled if it is accepted, emptied if it is refused.
abbrev pub after_build : {W : Type 0} → Meaning W → ℕ → Lengths → Climbed W → Filled W
after_build m n lengths c = by_some (build_refusal m n lengths c) (filled m n lengths (built m n c)) (λ _. emptied m lengths)
