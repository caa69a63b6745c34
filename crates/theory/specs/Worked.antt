-- The worked cases, as one table about the definitions. Assumes nothing.
use Rattle.std.specs.Prelude.{◌≡◌, ℕ, List, [], ◌∷◌, drop, Some, None}
use Rattle.measure.specs.Clearance.{clearance_meaning, clearance_of}
use Rattle.measure.specs.Ticks.{ticks_meaning, ticks_of}
use Rattle.measure.specs.declared.clearance.Clearance.{Clearance}
use Rattle.measure.specs.declared.ticks.Ticks.{Ticks}
use Rattle.blockfile.specs.Blocks.{header}
use Rattle.model.specs.Levels.{Climbed, climbed, row}
use Rattle.model.specs.Networks.{network}
use Rattle.model.specs.Queries.{Answer, indexed_query, plain_query}
use Rattle.model.specs.Tables.{Built, Lengths, build_refusal, built, entry, label_of}
use Rattle.model.specs.declared.records.Entry.{Entry}
use Rattle.model.specs.declared.records.Section.{Section}
use Rattle.model.specs.declared.refusal.Refusal.TheVariants.{LabelsFull, LegsFull}

-- A section.
abbrev pub section : {W : Type 0} → ℕ → ℕ → W → Section W
section u v w = record { low = u; high = v; weight = w }

-- Network A, of six stations: 0–1 2, 1–2 2, 1–4 8, 2–3 1, 3–4 4, 4–5 1.
abbrev pub network_a : {W : Type 0} → (ℕ → W) → List (Section W)
network_a w = section 0 1 (w 2) ∷ section 1 2 (w 2) ∷ section 1 4 (w 8) ∷ section 2 3 (w 1) ∷ section 3 4 (w 4) ∷ section 4 5 (w 1) ∷ []

-- Path P, of four stations: 0–1 100, 1–2 5, 2–3 1.
abbrev pub path_p : List (Section Ticks)
path_p = section 0 1 (ticks_of 100) ∷ section 1 2 (ticks_of 5) ∷ section 2 3 (ticks_of 1) ∷ []

-- A climb over n stations, in ticks.
abbrev pub climb_of : ℕ → List (Section Ticks) → ℕ → ℕ → Climbed Ticks
climb_of n ss height threshold = climbed ticks_meaning n (network ss) height threshold

-- What is built of it.
abbrev pub build_of : ℕ → List (Section Ticks) → ℕ → ℕ → Built Ticks
build_of n ss height threshold = built ticks_meaning n (climb_of n ss height threshold)

-- Network A in ticks, climbed to height 3 at threshold 100, and built.
abbrev pub climb_a : Climbed Ticks
climb_a = climb_of 6 (network_a ticks_of) 3 100

abbrev pub build_a : Built Ticks
build_a = build_of 6 (network_a ticks_of) 3 100

-- Network A in clearance, built likewise.
abbrev pub build_c : Built Clearance
build_c = built clearance_meaning 6 (climbed clearance_meaning 6 (network (network_a clearance_of)) 3 100)

-- An answer.
abbrev pub answer : {W : Type 0} → W → ℕ → Answer W
answer c n = record { cost = c; settled = n }

-- Tables for six stations with so many legs and entries.
abbrev pub room : ℕ → ℕ → Lengths
room legs labels = record { stations = 6; marks = 6; keys = 6; sections = 6; legs = legs; spare = legs; labels = labels }

-- An entry in ticks.
abbrev pub in_ticks : ℕ → ℕ → Entry Ticks
in_ticks w d = entry w (ticks_of d)

-- The table of worked cases.
pub record WorkedCases : Type 0 where
  -- network A at height 3 and threshold 100: levels {0, 2, 5} and {1}; the residual network is 3–4 of 4
  pub levels : build_a.levels ≡ 1 ∷ 2 ∷ 1 ∷ 3 ∷ 3 ∷ 1 ∷ []
  pub residual_3 : row build_a.rows 3 ≡ None ∷ None ∷ None ∷ None ∷ Some (ticks_of 4) ∷ None ∷ []
  pub residual_4 : row build_a.rows 4 ≡ None ∷ None ∷ None ∷ Some (ticks_of 4) ∷ None ∷ None ∷ []
  -- its labels of 0 and 2
  pub label_0 : label_of build_a.labels 0 ≡ in_ticks 0 0 ∷ in_ticks 1 2 ∷ in_ticks 3 5 ∷ in_ticks 4 10 ∷ []
  pub label_2 : label_of build_a.labels 2 ≡ in_ticks 1 2 ∷ in_ticks 2 0 ∷ in_ticks 3 1 ∷ in_ticks 4 10 ∷ []
  -- queries over it
  pub query_0_5 : indexed_query ticks_meaning 6 build_a 0 5 ≡ answer (ticks_of 10) 1
  pub query_2_4 : indexed_query ticks_meaning 6 build_a 2 4 ≡ answer (ticks_of 5) 1
  -- 12 legs suffice and 11 do not; 15 entries suffice and 14 do not
  pub legs_12 : build_refusal ticks_meaning 6 (room 12 15) climb_a ≡ None
  pub legs_11 : build_refusal ticks_meaning 6 (room 11 15) climb_a ≡ Some LegsFull
  pub entries_14 : build_refusal ticks_meaning 6 (room 12 14) climb_a ≡ Some LabelsFull
  -- threshold 50 climbs to level 3, threshold 49 to level 2
  pub threshold_50 : (climb_of 6 (network_a ticks_of) 3 50).top ≡ 3
  pub threshold_49 : (climb_of 6 (network_a ticks_of) 3 49).top ≡ 2
  -- the plain query on network A
  pub plain_0_5 : plain_query ticks_meaning 6 (network (network_a ticks_of)) 0 5 ≡ answer (ticks_of 10) 6
  -- path P at height 2
  pub path_0_3 : indexed_query ticks_meaning 4 (build_of 4 path_p 2 100) 0 3 ≡ answer (ticks_of 106) 1
  -- network A's weights as clearance
  pub clearance_1_4 : (indexed_query clearance_meaning 6 build_c 1 4).cost ≡ clearance_of 8
  pub clearance_1_3 : (indexed_query clearance_meaning 6 build_c 1 3).cost ≡ clearance_of 4
  -- two stations without a section, at heights 2 and 1
  pub apart_2 : indexed_query ticks_meaning 2 (build_of 2 [] 2 100) 0 1 ≡ answer ticks_meaning.no_way 0
  pub apart_1 : indexed_query ticks_meaning 2 (build_of 2 [] 1 100) 0 1 ≡ answer ticks_meaning.no_way 1
  -- one station
  pub alone : (indexed_query ticks_meaning 1 (build_of 1 [] 1 100) 0 0).cost ≡ ticks_meaning.free
  -- the header of one station without a section, in ticks, ends in these bytes
  pub header_end : drop 508 (header 1 1 0) ≡ 2 ∷ 1 ∷ 245 ∷ 252 ∷ []
