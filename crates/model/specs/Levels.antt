-- Levels: how they are picked, the networks above them, and where the climb ends. Assumes nothing.
use Rattle.std.specs.Prelude.{ℕ, zero, suc, ◌+◌, ◌-◌, ◌*◌, ◌/◌, Bool, false, cond, not, ◌&&◌, ◌||◌, List, [], ◌∷◌, replicate, is_some, Some, None, Option, ◌==◌, nat_eq, nat_le, nat_lt, slice_index, slice_index_or}
use Rattle.measure.specs.Meaning.{Meaning, better_of}
use Rattle.model.specs.Lists.{tab, choose, by_some}
use Rattle.model.specs.Networks.{Net}
use Rattle.model.specs.Slots.{least, settling, is_settled}
use Rattle.model.specs.declared.slot.Slot.{Slot}
use Rattle.model.specs.declared.slot.Slot.TheVariants.{Free, Waits, Settled}

-- For each station a row that says, for each other, what the section to it weighs.
abbrev pub Grid : Type 0 → Type 0
Grid W = List (List (Option W))

-- The row of a station.
abbrev pub row : {W : Type 0} → Grid W → ℕ → List (Option W)
row g u = slice_index_or g u []

-- The weight from one station to another.
abbrev pub look : {W : Type 0} → Grid W → ℕ → ℕ → Option W
look g u v = slice_index_or (row g u) v None

-- A network of n stations as a grid.
abbrev pub grid_of : {W : Type 0} → ℕ → Net W → Grid W
grid_of n G = tab n (λ u. tab n (G u))

-- How many sections a row has.
unfoldable pub row_count : {W : Type 0} → List (Option W) → ℕ
row_count [] = 0
row_count (None ∷ cells) = row_count cells
row_count (Some a ∷ cells) = suc (row_count cells)

-- The numbers f 0 to f (n − 1) added up.
unfoldable pub sum_below : ℕ → (ℕ → ℕ) → ℕ
sum_below zero f = 0
sum_below (suc n) f = sum_below n f + f n

-- A stage of the climb. A station that was picked has its level, and its row stays as it was in its level's
-- network; any other has level 0, and its row is that of the present network.
pub record Stage (W : Type 0) : Type 0 where
  pub levels : List ℕ
  pub rows : Grid W

-- The level of a station, 0 for none yet.
abbrev pub level_at : List ℕ → ℕ → ℕ
level_at levels u = slice_index levels u

-- Whether a station is in the present network.
abbrev pub present : List ℕ → ℕ → Bool
present levels u = level_at levels u == 0

-- The first stage: no level yet, and the network itself.
abbrev pub ground : {W : Type 0} → ℕ → Net W → Stage W
ground n G = record { levels = replicate n 0; rows = grid_of n G }

-- Who may be picked: each station of the present network waits with its number of sections.
abbrev pub candidates : {W : Type 0} → ℕ → Stage W → List (Slot ℕ)
candidates n t = tab n (λ u. cond (present t.levels u) (Waits (row_count (row t.rows u))) Free)

-- A station next to a picked one waits no more.
abbrev pub barred : Slot ℕ → Slot ℕ
barred Free = Free
barred (Waits c) = Free
barred (Settled c) = Settled c

-- The slots after v was picked: its neighbours wait no more.
abbrev pub bar_next : {W : Type 0} → ℕ → List (Option W) → List (Slot ℕ) → List (Slot ℕ)
bar_next n cells xs = tab n (λ u. cond (is_some (slice_index_or cells u None)) (barred (slice_index_or xs u Free)) (slice_index_or xs u Free))

-- Picking: again and again the waiting station with the fewest sections, the lowest at a tie, until none waits.
unfoldable pub picking : {W : Type 0} → ℕ → ℕ → Grid W → List (Slot ℕ) → List (Slot ℕ)
picking zero n g xs = xs
picking (suc turns) n g xs =
    by_some (least nat_le xs) xs (λ p. picking turns n g (bar_next n (row g p.0) (settling p xs)))

-- Which stations are picked at a stage.
abbrev pub picks : {W : Type 0} → ℕ → Stage W → List Bool
picks n t = let xs = picking n n t.rows (candidates n t) in tab n (λ u. is_settled (slice_index_or xs u Free))

-- The better of two weights of which either may be missing.
abbrev pub better_some : {W : Type 0} → Meaning W → Option W → Option W → Option W
better_some m None b = b
better_some m (Some a) None = Some a
better_some m (Some a) (Some b) = Some (better_of m a b)

-- Two weights joined, if both are there.
abbrev pub join_some : {W : Type 0} → Meaning W → Option W → Option W → Option W
join_some m None b = None
join_some m (Some a) None = None
join_some m (Some a) (Some b) = Some (m.join a b)

-- The best of f 0 to f (n − 1), of which any may be missing.
unfoldable pub best_below : {W : Type 0} → Meaning W → ℕ → (ℕ → Option W) → Option W
best_below m zero f = None
best_below m (suc n) f = better_some m (best_below m n f) (f n)

-- Whether a station is among the picked.
abbrev pub is_picked : List Bool → ℕ → Bool
is_picked picked u = slice_index_or picked u false

-- From u to w by way of v: the section itself where v is w, and two joined over a picked v.
abbrev pub by_way : {W : Type 0} → Meaning W → List Bool → Grid W → ℕ → ℕ → ℕ → Option W
by_way m picked g u w v = cond (v == w) (look g u w) (cond (is_picked picked v) (join_some m (look g u v) (look g v w)) None)

-- What the next network has between two stations: nothing at a picked station or from a station to itself, else the best by any way.
abbrev pub next_cell : {W : Type 0} → Meaning W → ℕ → List Bool → Grid W → ℕ → ℕ → Option W
next_cell m n picked g u w = choose (is_picked picked w || u == w) (λ _. None) (λ _. best_below m n (by_way m picked g u w))

-- The next stage: the picked stations have this level and keep their rows; the others have rows of the next network.
abbrev pub raised : {W : Type 0} → Meaning W → ℕ → ℕ → List Bool → Stage W → Stage W
raised m n level picked t =
    record {
      levels = tab n (λ u. cond (is_picked picked u) level (level_at t.levels u));
      rows =
          tab n
          (λ u. choose (present t.levels u && not (is_picked picked u)) (λ _. tab n (next_cell m n picked t.rows u)) (λ _. row t.rows u));
    }

-- How many stations the present network has.
abbrev pub stations_left : {W : Type 0} → ℕ → Stage W → ℕ
stations_left n t = sum_below n (λ u. cond (present t.levels u) 1 0)

-- How many sections it has: each stands in two rows.
abbrev pub sections_left : {W : Type 0} → ℕ → Stage W → ℕ
sections_left n t = sum_below n (λ u. cond (present t.levels u) (row_count (row t.rows u)) 0) / 2

-- The size of the present network: its stations and its sections.
abbrev pub size : {W : Type 0} → ℕ → Stage W → ℕ
size n t = stations_left n t + sections_left n t

-- The legs that a stage asks room for: those that picked stations keep, and each present section from both its ends.
abbrev pub demand : {W : Type 0} → ℕ → Stage W → ℕ
demand n t = sum_below n (λ u. row_count (row t.rows u))

-- The present network shrank too little from one of the given size.
abbrev pub too_little : ℕ → Option ℕ → ℕ → Bool
too_little threshold None now_size = false
too_little threshold (Some old_size) now_size = nat_lt (threshold * old_size) (100 * now_size)

-- What a climb came to: the top level, the stage there, and what each stage on the way asked room for.
pub record Climbed (W : Type 0) : Type 0 where
  pub top : ℕ
  pub stage : Stage W
  pub demands : List ℕ

-- A climb with one more stage below it.
abbrev pub from_below : {W : Type 0} → ℕ → Climbed W → Climbed W
from_below d c = record { top = c.top; stage = c.stage; demands = d ∷ c.demands }

-- The climb from a level, with so many levels left to the height limit and after a network of some size: it ends at the
-- limit, without a station, or where the network shrank too little; else the level is picked and the climb goes on.
unfoldable pub climb : {W : Type 0} → Meaning W → ℕ → ℕ → ℕ → ℕ → Option ℕ → Stage W → Climbed W
climb m n threshold zero level before t = record { top = level; stage = t; demands = demand n t ∷ [] }
climb m n threshold (suc left) level before t =
    choose (stations_left n t == 0 || too_little threshold before (size n t))
    (λ _. record { top = level; stage = t; demands = demand n t ∷ [] })
    (λ _. from_below (demand n t) (climb m n threshold left (suc level) (Some (size n t)) (raised m n level (picks n t) t)))

-- The climb over a network of n stations under a height limit and a threshold.
abbrev pub climbed : {W : Type 0} → Meaning W → ℕ → Net W → ℕ → ℕ → Climbed W
climbed m n G height threshold = climb m n threshold (height - 1) 1 None (ground n G)

-- The stage that given levels lead to, however they were picked: up to a level, each is raised by its stations.
unfoldable pub stage_by : {W : Type 0} → Meaning W → ℕ → List ℕ → Net W → ℕ → Stage W
stage_by m n levels G zero = ground n G
stage_by m n levels G (suc j) = raised m n (suc j) (tab n (λ u. nat_eq (level_at levels u) (suc j))) (stage_by m n levels G j)

-- The levels of all stations: the residual ones have the top level.
abbrev pub final_levels : {W : Type 0} → ℕ → Climbed W → List ℕ
final_levels n c = tab n (λ u. cond (present c.stage.levels u) c.top (level_at c.stage.levels u))

-- The number of residual stations.
abbrev pub residual_count : {W : Type 0} → ℕ → Climbed W → ℕ
residual_count n c = stations_left n c.stage
