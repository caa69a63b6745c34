-- The blank record of each table. Assumes nothing.
use Rattle.measure.specs.Meaning.{Meaning}
use Rattle.model.specs.declared.records.Entry.{Entry}
use Rattle.model.specs.declared.records.Key.{Key}
use Rattle.model.specs.declared.records.Leg.{Leg}
use Rattle.model.specs.declared.records.Section.{Section}
use Rattle.model.specs.declared.records.Station.{Station}

-- A blank section has the ends 0 and 1, so that even there the lower comes first, and no way.
abbrev pub blank_section : {W : Type 0} → Meaning W → Section W
blank_section m = record { low = 0; high = 1; weight = m.no_way }

-- A blank station has level 0, which no built station has.
abbrev pub blank_station : Station
blank_station = record { level = 0; first_leg = 0; legs = 0; first_entry = 0; entries = 0 }

-- A blank leg.
abbrev pub blank_leg : {W : Type 0} → Meaning W → Leg W
blank_leg m = record { from = 0; to = 0; weight = m.no_way }

-- A blank entry.
abbrev pub blank_entry : {W : Type 0} → Meaning W → Entry W
blank_entry m = record { hub = 0; weight = m.no_way }

-- A blank search key.
abbrev pub blank_key : {W : Type 0} → Meaning W → Key W
blank_key m = record { forward = m.no_way; reverse = m.no_way; count = 0 }
