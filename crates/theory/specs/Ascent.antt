-- One level up: a network without an independent set of stations, in which the best costs stay. Assumes nothing.
use Rattle.std.specs.Prelude.{◌≡◌, ℕ, Bool, true, false, ◌≢◌, ◌⊎◌, Some}
use Rattle.measure.specs.Meaning.{Meaning}
use Rattle.model.specs.Networks.{Best, Net}
use Rattle.theory.specs.Laws.{Has}

-- A section that joins two others over a picked station.
pub record Over {W : Type 0} (m : Meaning W) (picked : ℕ → Bool) (G : Net W) (u w : ℕ) (c : W) : Type 0 where
  pub by : ℕ
  pub first : W
  pub second : W
  pub chosen : picked by ≡ true
  pub from : G u by ≡ Some first
  pub to : G by w ≡ Some second
  pub joined : c ≡ m.join first second

-- H is the network above G: no two picked stations are joined; H joins unpicked stations by sections of G and by two
-- joined over a picked station; and between different stations it has something no worse than any of these.
pub record Next {W : Type 0} (m : Meaning W) (picked : ℕ → Bool) (G H : Net W) : Type 0 where
  pub independent : (u v : ℕ) (a : W) → picked u ≡ true → picked v ≡ true → G u v ≢ Some a
  pub unpicked : (u w : ℕ) (c : W) → H u w ≡ Some c → (picked u ≡ false) × (picked w ≡ false)
  pub made_of : (u w : ℕ) (c : W) → H u w ≡ Some c → (G u w ≡ Some c) ⊎ Over m picked G u w c
  pub keeps : (u w : ℕ) (a : W) → picked u ≡ false → picked w ≡ false → u ≢ w → G u w ≡ Some a → Has m H u w a
  pub bridges : (u v w : ℕ) (a b : W) → picked u ≡ false → picked v ≡ true → picked w ≡ false → u ≢ w → G u v ≡ Some a → G v w ≡ Some b → Has m H u w (m.join a b)

-- Between unpicked stations a cost is the best in the one network exactly if it is the best in the other.
pub record Preserves {W : Type 0} (m : Meaning W) (picked : ℕ → Bool) (G H : Net W) : Type 0 where
  pub up : (s t : ℕ) (c : W) → picked s ≡ false → picked t ≡ false → Best m G s t c → Best m H s t c
  pub down : (s t : ℕ) (c : W) → picked s ≡ false → picked t ≡ false → Best m H s t c → Best m G s t c

-- One level up the best costs stay, for any independent set, whether sections go one way or both.
abbrev pub AscentPreserves : {W : Type 0} → Meaning W → Type 0
AscentPreserves {W} m = (picked : ℕ → Bool) (G H : Net W) → Next m picked G H → Preserves m picked G H

-- There is only one best cost.
abbrev pub BestIsUnique : {W : Type 0} → Meaning W → Type 0
BestIsUnique {W} m = (G : Net W) (s t : ℕ) (c d : W) → Best m G s t c → Best m G s t d → c ≡ d
