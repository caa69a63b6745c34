-- What a measure means, and the laws that every measure keeps. Assumes nothing.
use Rattle.std.specs.Prelude.{◌≡◌, ℕ, ◌^◌, ◌<◌, ◌≤◌, Bool, true, false, cond, not, ◌⊎◌, List, [], ◌∷◌, length, Some, Option, ◌≢◌}

-- A measure over the weights W.
pub record Meaning (W : Type 0) : Type 0 where
  -- whether the first weight is no worse than the second
  pub leb : W → W → Bool
  -- the weight of one way followed by another
  pub join : W → W → W
  -- the weight of staying where one is
  pub free : W
  -- the weight of what cannot be travelled
  pub no_way : W
  -- whether a section may have this weight
  pub fit : W → Bool
  -- the number that stands for a fit weight in a file
  pub number : W → ℕ
  -- the weight that a number stands for, if it stands for one
  pub reading : ℕ → Option W
  -- the measure's mark in a file
  pub code : ℕ

-- The first weight is better than the second: the second is not as good.
abbrev pub better : {W : Type 0} → Meaning W → W → W → Bool
better m a b = not (m.leb b a)

-- The better of two weights, the first where they are equal.
abbrev pub better_of : {W : Type 0} → Meaning W → W → W → W
better_of m a b = cond (m.leb a b) a b

-- The weights of a row brought together by an operation; its unit where there is none.
abbrev pub total : {W : Type 0} → W → (W → W → W) → List W → W
total unit op [] = unit
total unit op (w ∷ ws) = op w (total unit op ws)

-- The weights of a row joined, as along a walk: free where there is none.
abbrev pub joined : {W : Type 0} → Meaning W → List W → W
joined m = total m.free m.join

-- The best weight of a row: no way where there is none.
abbrev pub best : {W : Type 0} → Meaning W → List W → W
best m = total m.no_way (better_of m)

-- Every weight of a row is fit for a section.
abbrev pub AllFit : {W : Type 0} → Meaning W → List W → Type 0
AllFit m [] = Unit {0}
AllFit m (w ∷ ws) = (m.fit w ≡ true) × AllFit m ws

-- The laws of a measure.
pub record Lawful {W : Type 0} (m : Meaning W) : Type 0 where
  -- the order is total, and only equal weights rank equal
  pub total : (a b : W) → (m.leb a b ≡ true) ⊎ (m.leb b a ≡ true)
  pub trans : (a b c : W) → m.leb a b ≡ true → m.leb b c ≡ true → m.leb a c ≡ true
  pub antisym : (a b : W) → m.leb a b ≡ true → m.leb b a ≡ true → a ≡ b
  -- joining is associative and commutative
  pub assoc : (a b c : W) → m.join (m.join a b) c ≡ m.join a (m.join b c)
  pub comm : (a b : W) → m.join a b ≡ m.join b a
  -- free adds nothing
  pub free_left : (w : W) → m.join m.free w ≡ w
  pub free_right : (w : W) → m.join w m.free ≡ w
  -- nothing leads on from no way
  pub no_way_left : (w : W) → m.join m.no_way w ≡ m.no_way
  pub no_way_right : (w : W) → m.join w m.no_way ≡ m.no_way
  -- what is no worse stays no worse when the same is joined to both
  pub mono_left : (a b c : W) → m.leb a b ≡ true → m.leb (m.join a c) (m.join b c) ≡ true
  pub mono_right : (a b c : W) → m.leb a b ≡ true → m.leb (m.join c a) (m.join c b) ≡ true
  -- nothing is better than free, and nothing is worse than no way
  pub free_best : (w : W) → m.leb m.free w ≡ true
  pub no_way_worst : (w : W) → m.leb w m.no_way ≡ true
  -- no way is not fit for a section
  pub no_way_unfit : m.fit m.no_way ≡ false
  -- a fit weight's number has seven bytes and reads back as that weight, and no other number reads back
  pub number_below : (w : W) → m.fit w ≡ true → m.number w < 2 ^ 56
  pub reads_back : (w : W) → m.fit w ≡ true → m.reading (m.number w) ≡ Some w
  pub reads_only : (k : ℕ) (w : W) → m.reading k ≡ Some w → (m.fit w ≡ true) × (m.number w ≡ k)
  -- the code fits one byte and is not 0
  pub code_low : 1 ≤ m.code
  pub code_high : m.code ≤ 255

-- How many fit weights can be joined before the house measures might reach no way.
abbrev pub walk_limit : ℕ
walk_limit = 4294

-- Joining fit weights, as many as a walk without a repeated station can have and more, never gives no way.
abbrev pub Carries : {W : Type 0} → Meaning W → Type 0
Carries {W} m = (ws : List W) → length ws ≤ walk_limit → AllFit m ws → joined m ws ≢ m.no_way
