-- The place of a section among sections in ascending order. Assumes nothing.
use Rattle.std.proofs.Common.{◌≡◌, ℕ, zero, suc, ◌<◌, ◌≤◌, Bool, true, false, cond, List, [], ◌∷◌, length, get_or, set, is_some, Some, None, Option, sym, refl, ap, ◌∙◌, subst, arith}
use Rattle.std.proofs.lemmas.Bool.{and_parts, cond_both, cond-false, cond-true, true≢false}
use Rattle.std.proofs.lemmas.Bool.Decides.{nat_tests}
use Rattle.std.specs.List.{insert, remove}
use Rattle.model.proofs.Ordering.{absent, before_trans, rises_earlier}
use Rattle.model.specs.Sections.{ends_before, place_of, placed, rises_from, same_ends, weight_of, without}
use Rattle.model.specs.declared.records.Section.{Section}
use Rattle.tables.specs.Finding.{has_at}

before_differs : (a b c d : ℕ) → ends_before a b c d ≡ true → same_ends a b c d ≡ false
before_differs a b c d = grind (arith, nat_tests)

before_one_way : (a b c d : ℕ) → ends_before a b c d ≡ true → ends_before c d a b ≡ false
before_one_way a b c d = grind (arith, nat_tests)

before_other : (a b c d : ℕ) → ends_before a b c d ≡ false → same_ends a b c d ≡ false → ends_before c d a b ≡ true
before_other a b c d = grind (arith, nat_tests)

-- nothing lies below 0
none_below : {X : Type 0} (i : ℕ) → i < 0 → X
none_below i h = let no : ⊥ = omega arith in elim no [ ]

-- a first choice that is there exactly where the test holds
told : {W : Type 0} (t : Bool) (w : W) (later : Option W) → (t ≡ false → later ≡ None) → t ≡ is_some (cond t (Some w) later)
told true w later h = refl
told false w later h = ap is_some (sym (h refl))

-- neither choice is there
both_none : {W : Type 0} (t : Bool) (w : W) (later : Option W) → is_some (cond t (Some w) later) ≡ false → (t ≡ false) × (is_some later ≡ false)
both_none true w later h = (h, elim (true≢false h) [ ])
both_none false w later h = (refl, h)

module _ {W : Type 0} where
  -- each section comes after the ends from which they rise
  rises_at : (a b : ℕ) (ss : List (Section W)) (i : ℕ) (s : Section W) → rises_from a b ss ≡ true → i < length ss → s ≡ get_or ss i s → ends_before a b s.low s.high ≡ true
  rises_at a b [] i s q within read = none_below i within
  rises_at a b (x ∷ ss) zero s q within read =
      let (first, rest) = and_parts (ends_before a b x.low x.high) (rises_from x.low x.high ss) q in
      subst (λ (z : Section W). ends_before a b z.low z.high ≡ true) (sym read) first
  rises_at a b (x ∷ ss) (suc i) s q within read =
      let (first, rest) = and_parts (ends_before a b x.low x.high) (rises_from x.low x.high ss) q in
      rises_at a b ss i s (rises_earlier a b x.low x.high ss first rest) (omega arith) read

  -- a section that comes before the ends stands below their place
  pub below_place : (a b low high : ℕ) (ss : List (Section W)) (i : ℕ) (s : Section W) → rises_from a b ss ≡ true → i < length ss → s ≡ get_or ss i s → ends_before s.low s.high low high ≡ true → i < place_of low high ss
  below_place a b low high [] i s q within read before = none_below i within
  below_place a b low high (x ∷ ss) zero s q within read before =
      let place = cond-true (ends_before x.low x.high low high) (suc (place_of low high ss)) 0 (subst (λ (z : Section W). ends_before z.low z.high low high ≡ true) read before) in
      omega arith
  below_place a b low high (x ∷ ss) (suc i) s q within read before =
      let (first, rest) = and_parts (ends_before a b x.low x.high) (rises_from x.low x.high ss) q in
      let below = rises_at x.low x.high ss i s rest (omega arith) read in
      let place = cond-true (ends_before x.low x.high low high) (suc (place_of low high ss)) 0 (before_trans x.low x.high s.low s.high low high below before) in
      let later = below_place x.low x.high low high ss i s rest (omega arith) read before in
      omega arith

  -- a section that does not come before the ends stands at their place or above
  pub from_place : (low high : ℕ) (ss : List (Section W)) (i : ℕ) (s : Section W) → i < length ss → s ≡ get_or ss i s → ends_before s.low s.high low high ≡ false → place_of low high ss ≤ i
  from_place low high [] i s within read before = none_below i within
  from_place low high (x ∷ ss) zero s within read before =
      let place = cond-false (ends_before x.low x.high low high) (suc (place_of low high ss)) 0 (subst (λ (z : Section W). ends_before z.low z.high low high ≡ false) read before) in
      omega arith
  from_place low high (x ∷ ss) (suc i) s within read before =
      let later = from_place low high ss i s (omega arith) read before in
      cond_both (ends_before x.low x.high low high) (suc (place_of low high ss)) 0 (λ p. p ≤ suc i) (λ _. omega arith) (λ _. omega arith)

  pub place_within : (low high : ℕ) (ss : List (Section W)) → place_of low high ss ≤ length ss
  place_within low high [] = omega arith
  place_within low high (x ∷ ss) =
      let later = place_within low high ss in
      cond_both (ends_before x.low x.high low high) (suc (place_of low high ss)) 0 (λ p. p ≤ suc (length ss)) (λ _. omega arith) (λ _. omega arith)

  -- the section at a place, as it was read there
  pub has_at_read : (i low high : ℕ) (ss : List (Section W)) (s : Section W) → i < length ss → s ≡ get_or ss i s → same_ends s.low s.high low high ≡ has_at i low high ss
  has_at_read i low high [] s within read = none_below i within
  has_at_read zero low high (x ∷ ss) s within read = ap (λ (z : Section W). same_ends z.low z.high low high) read
  has_at_read (suc i) low high (x ∷ ss) s within read = has_at_read i low high ss s (omega arith) read

  pub has_at_past : (i low high : ℕ) (ss : List (Section W)) → length ss ≤ i → false ≡ has_at i low high ss
  has_at_past i low high [] past = refl
  has_at_past zero low high (x ∷ ss) past = none_below (length ss) past
  has_at_past (suc i) low high (x ∷ ss) past = has_at_past i low high ss (omega arith)

  pub has_at_within : (i low high : ℕ) (ss : List (Section W)) → has_at i low high ss ≡ true → i < length ss
  has_at_within i low high [] has = elim (true≢false (sym has)) [ ]
  has_at_within zero low high (x ∷ ss) has = omega arith
  has_at_within (suc i) low high (x ∷ ss) has = let later = has_at_within i low high ss has in omega arith

  -- sections that lack these ends stay as they are without them
  pub without_none : (low high : ℕ) (ss : List (Section W)) → is_some (weight_of low high ss) ≡ false → without low high ss ≡ ss
  without_none low high [] none = refl
  without_none low high (s ∷ ss) none =
      let (here, later) = both_none (same_ends s.low s.high low high) s.weight (weight_of low high ss) none in
      cond-false _ _ _ here ∙ ap (λ zs. s ∷ zs) (without_none low high ss later)

  -- the section at the place of these ends tells whether there is one that has them
  pub has_at_place : (a b low high : ℕ) (ss : List (Section W)) → rises_from a b ss ≡ true → has_at (place_of low high ss) low high ss ≡ is_some (weight_of low high ss)
  has_at_place a b low high [] q = refl
  has_at_place a b low high (s ∷ ss) q =
      let (first, rest) = and_parts (ends_before a b s.low s.high) (rises_from s.low s.high ss) q in
      cond_both (ends_before s.low s.high low high) (suc (place_of low high ss)) 0 (λ p. has_at p low high (s ∷ ss) ≡ is_some (weight_of low high (s ∷ ss)))
      (λ e. has_at_place s.low s.high low high ss rest ∙ ap is_some (sym (cond-false _ _ _ (before_differs s.low s.high low high e))))
      (λ e. told (same_ends s.low s.high low high) s.weight (weight_of low high ss)
      (λ d. absent low high ss (rises_earlier low high s.low s.high ss (before_other s.low s.high low high e d) rest)))

  -- a section in the stead of the one that has its ends
  pub placed_there : (x : Section W) (ss : List (Section W)) → has_at (place_of x.low x.high ss) x.low x.high ss ≡ true → placed x ss ≡ set ss (place_of x.low x.high ss) x
  placed_there x [] h = elim (true≢false (sym h)) [ ]
  placed_there x (s ∷ ss) has =
      cond_both (ends_before s.low s.high x.low x.high) (suc (place_of x.low x.high ss)) 0 (λ p. has_at p x.low x.high (s ∷ ss) ≡ true → placed x (s ∷ ss) ≡ set (s ∷ ss) p x)
      (λ e h. cond-false _ _ _ (before_differs s.low s.high x.low x.high e) ∙ cond-false _ _ _ (before_one_way s.low s.high x.low x.high e) ∙ ap (λ zs. s ∷ zs) (placed_there x ss h))
      (λ e h. cond-true _ _ _ h)
      has

  -- a new section
  pub placed_new : (x : Section W) (ss : List (Section W)) → has_at (place_of x.low x.high ss) x.low x.high ss ≡ false → placed x ss ≡ insert ss (place_of x.low x.high ss) x
  placed_new x [] h = refl
  placed_new x (s ∷ ss) has =
      cond_both (ends_before s.low s.high x.low x.high) (suc (place_of x.low x.high ss)) 0 (λ p. has_at p x.low x.high (s ∷ ss) ≡ false → placed x (s ∷ ss) ≡ insert (s ∷ ss) p x)
      (λ e h. cond-false _ _ _ (before_differs s.low s.high x.low x.high e) ∙ cond-false _ _ _ (before_one_way s.low s.high x.low x.high e) ∙ ap (λ zs. s ∷ zs) (placed_new x ss h))
      (λ e h. cond-false _ _ _ h ∙ cond-true _ _ _ (before_other s.low s.high x.low x.high e h))
      has

  -- without the section that has these ends
  pub without_there : (low high : ℕ) (ss : List (Section W)) → has_at (place_of low high ss) low high ss ≡ true → without low high ss ≡ remove ss (place_of low high ss)
  without_there low high [] h = refl
  without_there low high (s ∷ ss) has =
      cond_both (ends_before s.low s.high low high) (suc (place_of low high ss)) 0 (λ p. has_at p low high (s ∷ ss) ≡ true → without low high (s ∷ ss) ≡ remove (s ∷ ss) p)
      (λ e h. cond-false _ _ _ (before_differs s.low s.high low high e) ∙ ap (λ zs. s ∷ zs) (without_there low high ss h))
      (λ e h. cond-true _ _ _ h)
      has
