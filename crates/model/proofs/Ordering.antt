-- Sections in ascending order, and what placing and removing do to look-ups. Assumes nothing.
use Rattle.std.proofs.Common.{◌≡◌, ℕ, ◌≤◌, Bool, true, false, cond, eqb, List, [], ◌∷◌, length, Some, None, sym, refl, ap, ◌∙◌, subst₂, arith}
use Rattle.std.proofs.lemmas.Bool.{and_from, and_parts, cond_both, cond-false, cond-true, eqb-true}
use Rattle.std.proofs.lemmas.Bool.Decides.{nat_tests}
use Rattle.model.specs.Sections.{ends_before, every, placed, rises_from, same_ends, weight_of, without}
use Rattle.model.specs.Sound.{NetworkIsSymmetric, PlacingIsSound, RemovingIsSound}
use Rattle.model.specs.declared.records.Section.{Section}

pub before_trans : (a b c d e f : ℕ) → ends_before a b c d ≡ true → ends_before c d e f ≡ true → ends_before a b e f ≡ true
before_trans a b c d e f = grind (arith, nat_tests)

before_other : (a b c d : ℕ) → same_ends a b c d ≡ false → ends_before c d a b ≡ false → ends_before a b c d ≡ true
before_other a b c d = grind (arith, nat_tests)

before_differs : (a b c d : ℕ) → ends_before a b c d ≡ true → same_ends c d a b ≡ false
before_differs a b c d = grind (arith, nat_tests)

same_turned : (a b c d : ℕ) → same_ends a b c d ≡ false → same_ends c d a b ≡ false
same_turned a b c d = grind (arith, nat_tests)

same_elsewhere : (a b c d e f : ℕ) → same_ends a b c d ≡ true → same_ends c d e f ≡ false → same_ends a b e f ≡ false
same_elsewhere a b c d e f = grind (arith, nat_tests)

same_self : (a b : ℕ) → same_ends a b a b ≡ true
same_self a b = grind (arith, nat_tests)

-- the same ends, as two equations
same_parts : (a b c d : ℕ) → same_ends a b c d ≡ true → (a ≡ c) × (b ≡ d)
same_parts a b c d e =
    let (low, high) = and_parts (eqb a c) (eqb b d) e in
    (eqb-true a c low, eqb-true b d high)

module _ {W : Type 0} where
  -- what rises from later ends rises from earlier ones
  pub rises_earlier : (a b c d : ℕ) (ss : List (Section W)) → ends_before a b c d ≡ true → rises_from c d ss ≡ true → rises_from a b ss ≡ true
  rises_earlier a b c d [] p q = refl
  rises_earlier a b c d (s ∷ ss) p q =
      let (first, rest) = and_parts (ends_before c d s.low s.high) (rises_from s.low s.high ss) q in
      and_from _ _ (before_trans a b c d s.low s.high p first) rest

  -- sections that rise from some ends do not have these
  pub absent : (a b : ℕ) (ss : List (Section W)) → rises_from a b ss ≡ true → weight_of a b ss ≡ None
  absent a b [] q = refl
  absent a b (s ∷ ss) q =
      let (first, rest) = and_parts (ends_before a b s.low s.high) (rises_from s.low s.high ss) q in
      cond-false _ _ _ (before_differs a b s.low s.high first) ∙ absent a b ss (rises_earlier a b s.low s.high ss first rest)

  placed_rises : (x : Section W) (a b : ℕ) (ss : List (Section W)) → ends_before a b x.low x.high ≡ true → rises_from a b ss ≡ true → rises_from a b (placed x ss) ≡ true
  placed_rises x a b [] p q = and_from _ _ p refl
  placed_rises x a b (s ∷ ss) p q =
      let (first, rest) = and_parts (ends_before a b s.low s.high) (rises_from s.low s.high ss) q in
      cond_both (same_ends s.low s.high x.low x.high) (x ∷ ss) _ (λ zs. rises_from a b zs ≡ true)
      (λ e. let (low, high) = same_parts s.low s.high x.low x.high e in
      and_from _ _ p (subst₂ (λ l h. rises_from l h ss ≡ true) low high rest))
      (λ e. cond_both (ends_before x.low x.high s.low s.high) (x ∷ s ∷ ss) (s ∷ placed x ss) (λ zs. rises_from a b zs ≡ true)
      (λ f. and_from _ _ p (and_from _ _ f rest))
      (λ f. and_from _ _ first (placed_rises x s.low s.high ss (before_other s.low s.high x.low x.high e f) rest)))

  placed_there : (x : Section W) (ss : List (Section W)) → weight_of x.low x.high (placed x ss) ≡ Some x.weight
  placed_there x [] = cond-true _ _ _ (same_self x.low x.high)
  placed_there x (s ∷ ss) =
      let here = same_self x.low x.high in
      cond_both (same_ends s.low s.high x.low x.high) (x ∷ ss) _ (λ zs. weight_of x.low x.high zs ≡ Some x.weight)
      (λ e. cond-true _ _ _ here)
      (λ e. cond_both (ends_before x.low x.high s.low s.high) (x ∷ s ∷ ss) (s ∷ placed x ss) (λ zs. weight_of x.low x.high zs ≡ Some x.weight)
      (λ f. cond-true _ _ _ here)
      (λ f. cond-false _ _ _ e ∙ placed_there x ss))

  placed_elsewhere : (x : Section W) (ss : List (Section W)) (l h : ℕ) → same_ends x.low x.high l h ≡ false → weight_of l h (placed x ss) ≡ weight_of l h ss
  placed_elsewhere x [] l h d = cond-false _ _ _ d
  placed_elsewhere x (s ∷ ss) l h d =
      cond_both (same_ends s.low s.high x.low x.high) (x ∷ ss) _ (λ zs. weight_of l h zs ≡ weight_of l h (s ∷ ss))
      (λ e. cond-false _ _ _ d ∙ sym (cond-false _ _ _ (same_elsewhere s.low s.high x.low x.high l h e d)))
      (λ e. cond_both (ends_before x.low x.high s.low s.high) (x ∷ s ∷ ss) (s ∷ placed x ss) (λ zs. weight_of l h zs ≡ weight_of l h (s ∷ ss))
      (λ f. cond-false _ _ _ d)
      (λ f. ap (λ r. cond (same_ends s.low s.high l h) (Some s.weight) r) (placed_elsewhere x ss l h d)))

  without_rises : (l h a b : ℕ) (ss : List (Section W)) → rises_from a b ss ≡ true → rises_from a b (without l h ss) ≡ true
  without_rises l h a b [] q = refl
  without_rises l h a b (s ∷ ss) q =
      let (first, rest) = and_parts (ends_before a b s.low s.high) (rises_from s.low s.high ss) q in
      cond_both (same_ends s.low s.high l h) ss (s ∷ without l h ss) (λ zs. rises_from a b zs ≡ true)
      (λ e. rises_earlier a b s.low s.high ss first rest)
      (λ e. and_from _ _ first (without_rises l h s.low s.high ss rest))

  without_there : (l h a b : ℕ) (ss : List (Section W)) → rises_from a b ss ≡ true → weight_of l h (without l h ss) ≡ None
  without_there l h a b [] q = refl
  without_there l h a b (s ∷ ss) q =
      let (first, rest) = and_parts (ends_before a b s.low s.high) (rises_from s.low s.high ss) q in
      cond_both (same_ends s.low s.high l h) ss (s ∷ without l h ss) (λ zs. weight_of l h zs ≡ None)
      (λ e. let (low, high) = same_parts s.low s.high l h e in
      absent l h ss (subst₂ (λ x y. rises_from x y ss ≡ true) low high rest))
      (λ e. cond-false _ _ _ e ∙ without_there l h s.low s.high ss rest)

  without_elsewhere : (low high : ℕ) (ss : List (Section W)) (l h : ℕ) → same_ends low high l h ≡ false → weight_of l h (without low high ss) ≡ weight_of l h ss
  without_elsewhere low high [] l h d = refl
  without_elsewhere low high (s ∷ ss) l h d =
      cond_both (same_ends s.low s.high low high) ss (s ∷ without low high ss) (λ zs. weight_of l h zs ≡ weight_of l h (s ∷ ss))
      (λ e. sym (cond-false _ _ _ (same_elsewhere s.low s.high low high l h e d)))
      (λ e. ap (λ r. cond (same_ends s.low s.high l h) (Some s.weight) r) (without_elsewhere low high ss l h d))

  pub placing_is_sound : PlacingIsSound W
  placing_is_sound x ss =
      record {
        ordered = λ rising up. placed_rises x 0 0 ss (grind (arith, nat_tests)) up;
        changed = record { there = placed_there x ss; elsewhere = placed_elsewhere x ss };
      }

  pub removing_is_sound : RemovingIsSound W
  removing_is_sound low high ss =
      record {
        ordered = λ up. without_rises low high 0 0 ss up;
        changed = λ up. record { there = without_there low high 0 0 ss up; elsewhere = without_elsewhere low high ss };
      }

  pub network_is_symmetric : NetworkIsSymmetric W
  network_is_symmetric ss =
      record {
        back = λ u v. grind (arith, nat_tests);
        no_loop = λ u. grind (arith, nat_tests);
      }

  -- a test that every section passes, and the placed one, they pass after the placing
  pub placed_pass : (passes : Section W → Bool) (x : Section W) (ss : List (Section W)) → passes x ≡ true → every passes ss ≡ true → every passes (placed x ss) ≡ true
  placed_pass passes x [] new all = and_from _ _ new refl
  placed_pass passes x (s ∷ ss) new all =
      let (first, rest) = and_parts (passes s) (every passes ss) all in
      cond_both (same_ends s.low s.high x.low x.high) (x ∷ ss) _ (λ zs. every passes zs ≡ true)
      (λ _. and_from _ _ new rest)
      (λ _. cond_both (ends_before x.low x.high s.low s.high) (x ∷ s ∷ ss) (s ∷ placed x ss) (λ zs. every passes zs ≡ true)
      (λ _. and_from _ _ new all)
      (λ _. and_from _ _ first (placed_pass passes x ss new rest)))

  -- a test that every section passes, those that are left pass
  pub without_pass : (passes : Section W → Bool) (low high : ℕ) (ss : List (Section W)) → every passes ss ≡ true → every passes (without low high ss) ≡ true
  without_pass passes low high [] all = refl
  without_pass passes low high (s ∷ ss) all =
      let (first, rest) = and_parts (passes s) (every passes ss) all in
      cond_both (same_ends s.low s.high low high) ss (s ∷ without low high ss) (λ zs. every passes zs ≡ true) (λ _. rest) (λ _. and_from _ _ first (without_pass passes low high ss rest))

  -- placing makes no list shorter
  pub placed_longer : (x : Section W) (ss : List (Section W)) → length ss ≤ length (placed x ss)
  placed_longer x [] = omega arith
  placed_longer x (s ∷ ss) =
      let later = placed_longer x ss in
      cond_both (same_ends s.low s.high x.low x.high) (x ∷ ss) _ (λ zs. length (s ∷ ss) ≤ length zs)
      (λ _. omega arith)
      (λ _. cond_both (ends_before x.low x.high s.low s.high) (x ∷ s ∷ ss) (s ∷ placed x ss) (λ zs. length (s ∷ ss) ≤ length zs) (λ _. omega arith) (λ _. omega arith))

  -- removing makes no list longer
  pub without_shorter : (low high : ℕ) (ss : List (Section W)) → length (without low high ss) ≤ length ss
  without_shorter low high [] = omega arith
  without_shorter low high (s ∷ ss) =
      let later = without_shorter low high ss in
      cond_both (same_ends s.low s.high low high) ss (s ∷ without low high ss) (λ zs. length zs ≤ length (s ∷ ss)) (λ _. omega arith) (λ _. omega arith)
