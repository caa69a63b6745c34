-- Levels and labels, however the levels were picked. Assumes nothing.
use Rattle.std.specs.Prelude.{◌≡◌, ℕ, suc, ◌<◌, ◌≤◌, Bool, ◌⊎◌, Some, ◌==◌}
use Rattle.measure.specs.Meaning.{Meaning}
use Rattle.model.specs.Networks.{Net, Walk, cost}
use Rattle.model.specs.Queries.{turned}
use Rattle.theory.specs.Ascent.{Next}
use Rattle.theory.specs.Laws.{Has, NoWorse}

-- The stations of one level.
abbrev pub at_level : (ℕ → ℕ) → ℕ → ℕ → Bool
at_level lev i u = lev u == i

-- A station is in the network of level i: its own level is that one or a higher one, up to the top.
abbrev pub In : (ℕ → ℕ) → ℕ → ℕ → ℕ → Type 0
In lev k i u = (i ≤ lev u) × (lev u ≤ k)

-- Networks G 1 to G k over levels: each joins stations that are in it, and each but the last has the next above it.
pub record Tower {W : Type 0} (m : Meaning W) (k : ℕ) (lev : ℕ → ℕ) (G : ℕ → Net W) : Type 0 where
  pub inside : (i u v : ℕ) (a : W) → 1 ≤ i → i ≤ k → G i u v ≡ Some a → In lev k i u × In lev k i v
  pub next : (i : ℕ) → 1 ≤ i → i < k → Next m (at_level lev i) (G i) (G (suc i))

-- An entry that comes over a leg: its weight joined to an entry of the leg's other end.
pub record ByLeg {W : Type 0} (m : Meaning W) (k : ℕ) (lev : ℕ → ℕ) (G : ℕ → Net W) (out : Net W) (v w : ℕ) (d : W) : Type 0 where
  pub below : lev v < k
  pub to : ℕ
  pub leg : W
  pub rest : W
  pub is_leg : G (lev v) v to ≡ Some leg
  pub is_entry : out to w ≡ Some rest
  pub joined : d ≡ m.join leg rest

-- Labels for travel from stations to hubs: each station has itself for free; over each leg it has something no worse than
-- the leg joined to an entry of its other end; and it has nothing else.
pub record OutLabels {W : Type 0} (m : Meaning W) (k : ℕ) (lev : ℕ → ℕ) (G : ℕ → Net W) (out : Net W) : Type 0 where
  pub own : (v : ℕ) → In lev k 1 v → out v v ≡ Some m.free
  pub over : (v u w : ℕ) (a d : W) → 1 ≤ lev v → lev v < k → G (lev v) v u ≡ Some a → out u w ≡ Some d → Has m out v w (m.join a d)
  pub made_of : (v w : ℕ) (d : W) → In lev k 1 v → out v w ≡ Some d → ((v ≡ w) × (d ≡ m.free)) ⊎ ByLeg m k lev G out v w d

-- A network with every section turned round.
abbrev pub back : {W : Type 0} → Net W → Net W
back G u v = G v u

-- Labels for travel from hubs to stations: the others turned round.
abbrev pub InLabels : {W : Type 0} → Meaning W → ℕ → (ℕ → ℕ) → (ℕ → Net W) → Net W → Type 0
InLabels m k lev G into = OutLabels (turned m) k lev (λ i. back (G i)) into

-- A cost c from s to t is covered by a hub of both labels, at which the two entries joined are no worse.
pub record ByHub {W : Type 0} (m : Meaning W) (out into : Net W) (s t : ℕ) (c : W) : Type 0 where
  pub hub : ℕ
  pub first : W
  pub second : W
  pub is_out : out s hub ≡ Some first
  pub is_in : into t hub ≡ Some second
  pub covers : NoWorse m (m.join first second) c

-- Or it is covered by two entries for residual stations and a walk between these in the residual network.
pub record ByRest {W : Type 0} (m : Meaning W) (k : ℕ) (lev : ℕ → ℕ) (R : Net W) (out into : Net W) (s t : ℕ) (c : W) : Type 0 where
  pub enter : ℕ
  pub leave : ℕ
  pub first : W
  pub second : W
  pub enters : lev enter ≡ k
  pub leaves : lev leave ≡ k
  pub is_out : out s enter ≡ Some first
  pub is_in : into t leave ≡ Some second
  pub walk : Walk R leave enter
  pub covers : NoWorse m (m.join first (m.join (cost m walk) second)) c

-- A cost is covered in one of the two ways.
abbrev pub Covered : {W : Type 0} → Meaning W → ℕ → (ℕ → ℕ) → Net W → Net W → Net W → ℕ → ℕ → W → Type 0
Covered m k lev R out into s t c = ByHub m out into s t c ⊎ ByRest m k lev R out into s t c

-- Every walk of the network is covered, for any levels whose stations are independent in their networks.
abbrev pub LabelsCover : {W : Type 0} → Meaning W → Type 0
LabelsCover {W} m = (k : ℕ) (lev : ℕ → ℕ) (G : ℕ → Net W) (out into : Net W) → 1 ≤ k → Tower m k lev G → OutLabels m k lev G out → InLabels m k lev G into →
    (s t : ℕ) → In lev k 1 s → In lev k 1 t → (p : Walk (G 1) t s) → Covered m k lev (G k) out into s t (cost m p)

-- Every entry is the cost of a walk.
abbrev pub EntriesAreWalks : {W : Type 0} → Meaning W → Type 0
EntriesAreWalks {W} m = (k : ℕ) (lev : ℕ → ℕ) (G : ℕ → Net W) (out : Net W) → Tower m k lev G → OutLabels m k lev G out →
    (v w : ℕ) (d : W) → In lev k 1 v → out v w ≡ Some d → (p : Walk (G 1) w v) × (cost m p ≡ d)
