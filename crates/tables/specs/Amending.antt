-- What placing and removing a section leave of a table. Assumes nothing.
use Rattle.std.specs.Prelude.{◌≡◌, ℕ, ◌-◌, true, false, List, ◌++◌, length, take, drop, replicate, is_some, Some, None, Option, MatchOption}
use Rattle.model.specs.Lists.{padded}
use Rattle.model.specs.Sections.{ascends, placed, weight_of, without}
use Rattle.model.specs.declared.records.Section.{Section}

-- The section with these ends and this weight.
abbrev pub section_of : {W : Type 0} → ℕ → ℕ → W → Section W
section_of low high weight = record { low = low; high = high; weight = weight }

-- Placing x among the first count records: a table that is full and has no such section stays; else they have x in its place, and the records behind stay.
abbrev pub Placing : {W : Type 0} → List (Section W) → ℕ → Section W → Option ℕ → List (Section W) → Type 0
Placing before count x None after = (count ≡ length before) × (is_some (weight_of x.low x.high (take count before)) ≡ false) × (after ≡ before)
Placing before count x (Some n) after = (n ≡ length (placed x (take count before))) × (after ≡ placed x (take count before) ++ drop n before)

-- Removing the section with these ends from the first count records leaves n of them, a blank where one is gone, and the records behind as they were.
abbrev pub Removing : {W : Type 0} → List (Section W) → ℕ → ℕ → ℕ → Section W → ℕ → List (Section W) → Type 0
Removing before count low high blank n after =
    (n ≡ length (without low high (take count before))) × (after ≡ without low high (take count before) ++ (replicate (count - n) blank ++ drop count before))

-- Placing x in a table of ascending sections that blanks pad leaves such a table.
abbrev pub PlacingPadded : {W : Type 0} → List (Section W) → ℕ → Section W → Option ℕ → List (Section W) → Type 0
PlacingPadded {W} before count x r after =
    (blank : Section W) (ss : List (Section W)) → ascends ss ≡ true → count ≡ length ss → before ≡ padded (length before) blank ss
    → MatchOption r ((count ≡ length before) × (is_some (weight_of x.low x.high ss) ≡ false) × (after ≡ before)) (λ n. (n ≡ length (placed x ss)) × (after ≡ padded (length before) blank (placed x ss)))

-- Removing the section with these ends from such a table leaves such a table.
abbrev pub RemovingPadded : {W : Type 0} → List (Section W) → ℕ → ℕ → ℕ → Section W → ℕ → List (Section W) → Type 0
RemovingPadded {W} before count low high blank n after =
    (ss : List (Section W)) → ascends ss ≡ true → count ≡ length ss → before ≡ padded (length before) blank ss
    → (n ≡ length (without low high ss)) × (after ≡ padded (length before) blank (without low high ss))
