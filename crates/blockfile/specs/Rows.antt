use Rattle.std.specs.Prelude.{◌≡◌, ℕ, ◌+◌, ◌^◌, ◌<◌, Bool, true, ◌&&◌, ◌||◌, List, length, ◌==◌, nat_lt, slice_index_or}
use Rattle.blockfile.specs.declared.row.Row.{Row}

-- a row stands before another when its lower end is lower, or, at the same lower end, its higher end
abbrev pub ahead : Row → Row → Bool
ahead a b = nat_lt a.low b.low || (a.low == b.low && nat_lt a.high b.high)

-- what a read beyond the last row gives
abbrev pub blank_row : Row
blank_row = record { low = 0; high = 0; number = 0 }

-- a row that a file of n stations may hold: two stations, lower first, and a number that reads back
pub record FitRow (n : ℕ) (readable : ℕ → Bool) (r : Row) : Type 0 where
  pub ends : r.low < r.high
  pub below : r.high < n
  pub reads : readable r.number ≡ true
  pub eight : r.number < 2 ^ 64

-- rows that a file of n stations may hold: each is fit, and they ascend
pub record FitRows (n : ℕ) (readable : ℕ → Bool) (rows : List Row) : Type 0 where
  pub each : (i : ℕ) → i < length rows → FitRow n readable (slice_index_or rows i blank_row)
  pub rising : (i : ℕ) → i + 1 < length rows → ahead (slice_index_or rows i blank_row) (slice_index_or rows (i + 1) blank_row) ≡ true
