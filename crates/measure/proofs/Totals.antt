-- Rows of weights under an operation with a unit. Assumes nothing.
use Rattle.std.proofs.Common.{◌≡◌, Bool, true, false, List, [], ◌∷◌, ◌++◌, sym, refl, ap, ◌∙◌, ⊎_elim}
use Rattle.std.proofs.lemmas.Bool.{both_ways, cond_both, cond-true}
use Rattle.measure.specs.Meaning.{Meaning, Lawful, better_of, total}

-- an operation with a unit
pub record Unital {W : Type 0} (unit : W) (op : W → W → W) : Type 0 where
  pub left : (x : W) → op unit x ≡ x
  pub right : (x : W) → op x unit ≡ x
  pub assoc : (x y z : W) → op (op x y) z ≡ op x (op y z)

module _ {W : Type 0} {unit : W} {op : W → W → W} (laws : Unital unit op) where
  -- one weight more of a row
  pub total_push : (xs : List W) (x : W) → total unit op (xs ++ (x ∷ [])) ≡ op (total unit op xs) x
  total_push [] x = laws.right x ∙ sym (laws.left x)
  total_push (y ∷ xs) x = ap (op y) (total_push xs x) ∙ sym (laws.assoc y (total unit op xs) x)

-- joining is such an operation
pub joining : {W : Type 0} {m : Meaning W} → Lawful m → Unital m.free m.join
joining laws = record { left = laws.free_left; right = laws.free_right; assoc = laws.assoc }

module _ {W : Type 0} {m : Meaning W} (laws : Lawful m) where
  -- of two weights the second is no worse where the first is not
  pub other_way : (a b : W) → m.leb a b ≡ false → m.leb b a ≡ true
  other_way a b e = ⊎_elim (λ p. absurd (both_ways (m.leb a b) e p)) (λ p. p) (laws.total a b)

  -- the better of two weights is the first where that is no worse, and the second where that is
  pub better_first : (a b : W) → m.leb a b ≡ true → better_of m a b ≡ a
  better_first a b p = cond-true (m.leb a b) a b p

  pub better_second : (a b : W) → m.leb b a ≡ true → better_of m a b ≡ b
  better_second a b p = cond_both (m.leb a b) a b (λ w. w ≡ b) (λ q. laws.antisym a b q p) (λ _. refl)

  better_assoc : (a b c : W) → better_of m (better_of m a b) c ≡ better_of m a (better_of m b c)
  better_assoc a b c = go (m.leb a b) refl (m.leb b c) refl
    where
      go : (p : Bool) → m.leb a b ≡ p → (q : Bool) → m.leb b c ≡ q → better_of m (better_of m a b) c ≡ better_of m a (better_of m b c)
      go true e true f = rw (better_first a b e, better_first b c f, better_first a b e) (better_first a c (laws.trans a b c e f))
      go true e false f = rw (better_first a b e, better_second b c (other_way b c f)) refl
      go false e true f = rw (better_second a b (other_way a b e), better_first b c f, better_second a b (other_way a b e)) refl
      go false e false f =
          let last = laws.trans c b a (other_way b c f) (other_way a b e) in
          rw (better_second a b (other_way a b e), better_second b c (other_way b c f), better_second a c last) refl

  -- taking the better is such an operation too
  pub bettering : Unital m.no_way (better_of m)
  bettering = record {
    left = λ x. better_second m.no_way x (laws.no_way_worst x);
    right = λ x. better_first x m.no_way (laws.no_way_worst x);
    assoc = better_assoc;
  }
