-- The measure of ticks and transfers. Assumes nothing.
use Rattle.std.specs.Prelude.{ℕ, ◌+◌, ◌*◌, ◌/◌, ◌%◌, min, Bool, cond, ◌&&◌, ◌||◌, List, ◌++◌, Some, None, codes, decimal, Option, ◌==◌, nat_le, nat_lt}
use Rattle.measure.specs.Meaning.{Meaning}
use Rattle.measure.specs.Ticks.{ticks_top, fit_ticks}
use Rattle.measure.specs.Bounds.{trip_bounds}
use Rattle.measure.specs.declared.trip.Trip.{Trip}

-- The top of the transfers: full transfers alone do not mean that there is no way.
abbrev pub transfers_top : ℕ
transfers_top = 65535

-- So many transfers beside so many ticks: full where the ticks reach their top, else stopped at the top.
abbrev pub transfers_beside : ℕ → ℕ → ℕ
transfers_beside ticks transfers = cond (nat_le ticks_top ticks) transfers_top (min transfers transfers_top)

-- A trip of so many ticks and transfers, each stopped at its top.
abbrev pub trip_of : ℕ → ℕ → Trip
trip_of t x = record { ticks = min t ticks_top; transfers = transfers_beside t x; ok = trip_bounds t x }

-- Two numbers are a trip: each within its top, and full transfers where the ticks are at their top.
abbrev pub is_trip : ℕ → ℕ → Bool
is_trip t x = nat_le t ticks_top && (nat_le x transfers_top && (nat_lt t ticks_top || x == transfers_top))

-- The trip of two numbers, if they are one.
abbrev pub trip_if : ℕ → ℕ → Option Trip
trip_if t x = cond (is_trip t x) (Some (trip_of t x)) None

-- Fewer ticks come first, then fewer transfers.
abbrev pub trip_leb : Trip → Trip → Bool
trip_leb a b = nat_lt a.ticks b.ticks || (a.ticks == b.ticks && nat_le a.transfers b.transfers)

-- What the transfers are multiplied by in a trip's number.
abbrev pub transfer_unit : ℕ
transfer_unit = 4294967296

-- The trip that a number stands for: ticks fit for a section in its low four bytes, and two bytes of transfers above them.
abbrev pub trip_reading : ℕ → Option Trip
trip_reading k = cond (fit_ticks (k % transfer_unit) && nat_le (k / transfer_unit) transfers_top) (Some (trip_of (k % transfer_unit) (k / transfer_unit))) None

-- Ticks add up, and so do transfers.
abbrev pub trip_meaning : Meaning Trip
trip_meaning = record {
  leb = trip_leb;
  join = λ a b. trip_of (a.ticks + b.ticks) (a.transfers + b.transfers);
  free = trip_of 0 0;
  no_way = trip_of ticks_top transfers_top;
  fit = λ w. fit_ticks w.ticks;
  number = λ w. w.ticks + transfer_unit * w.transfers;
  reading = trip_reading;
  code = 3;
}

-- How a trip is printed.
abbrev pub trip_shown : Trip → List ℕ
trip_shown w = cond (w.ticks == ticks_top) (codes "no way") (decimal w.ticks ++ (codes " ticks, " ++ (decimal w.transfers ++ codes " transfers")))
