-- Amendments of a table whose sections blanks pad. Assumes nothing.
use Rattle.std.proofs.Common.{◌≡◌, ℕ, ◌+◌, ◌-◌, ◌≤◌, true, List, [], ◌∷◌, ◌++◌, length, take, drop, replicate, is_some, Some, None, Option, sym, refl, ap, ◌∙◌, ap₂, arith}
use Rattle.std.proofs.lemmas.List.{drop_at, drop-drop, drop-replicate, replicate-append-replicate, take_at}
use Rattle.std.proofs.lemmas.Bool.{cond_both}
use Rattle.model.specs.Lists.{padded}
use Rattle.model.specs.Sections.{ascends, ends_before, placed, same_ends, weight_of, without}
use Rattle.model.specs.declared.records.Section.{Section}
use Rattle.tables.specs.Amending.{Placing, PlacingPadded, Removing, RemovingPadded}

module _ {X : Type 0} where
  -- the records in use
  take_padded : (m n : ℕ) (blank : X) (xs ss : List X) → n ≡ length ss → xs ≡ padded m blank ss → take n xs ≡ ss
  take_padded m n blank xs ss long is = ap (λ zs. take n zs) is ∙ take_at ss (replicate (m - length ss) blank) n (sym long)

  -- the records behind them
  drop_padded : (m n : ℕ) (blank : X) (xs ss : List X) → length ss ≤ n → xs ≡ padded m blank ss → drop n xs ≡ replicate (m - n) blank
  drop_padded m n blank xs ss le is =
      let blanks = replicate (m - length ss) blank in
      let split : n ≡ length ss + (n - length ss) = omega arith in
      let left : m - length ss - (n - length ss) ≡ m - n = omega arith in
      ap₂ (λ k zs. drop k zs) split is
      ∙ sym (drop-drop (n - length ss) (length ss) (ss ++ blanks))
      ∙ ap (λ zs. drop (n - length ss) zs) (drop_at ss blanks (length ss) refl)
      ∙ drop-replicate (n - length ss) (m - length ss) blank
      ∙ ap (λ k. replicate k blank) left

module _ {W : Type 0} where
  placed_longer : (x : Section W) (ss : List (Section W)) → length ss ≤ length (placed x ss)
  placed_longer x [] = omega arith
  placed_longer x (s ∷ ss) =
      let later = placed_longer x ss in
      cond_both (same_ends s.low s.high x.low x.high) (x ∷ ss) _ (λ zs. length (s ∷ ss) ≤ length zs)
      (λ _. omega arith)
      (λ _. cond_both (ends_before x.low x.high s.low s.high) (x ∷ s ∷ ss) (s ∷ placed x ss) (λ zs. length (s ∷ ss) ≤ length zs) (λ _. omega arith) (λ _. omega arith))

  without_shorter : (low high : ℕ) (ss : List (Section W)) → length (without low high ss) ≤ length ss
  without_shorter low high [] = omega arith
  without_shorter low high (s ∷ ss) =
      let later = without_shorter low high ss in
      cond_both (same_ends s.low s.high low high) ss (s ∷ without low high ss) (λ zs. length zs ≤ length (s ∷ ss)) (λ _. omega arith) (λ _. omega arith)

  pub placing_padded : (xs : List (Section W)) (n : ℕ) (x : Section W) (r : Option ℕ) (after : List (Section W)) → (ascends (take n xs) ≡ true → Placing xs n x r after) → PlacingPadded xs n x r after
  placing_padded xs n x None after table blank ss up long is =
      let used = take_padded (length xs) n blank xs ss long is in
      let (full, none, same) = table (ap ascends used ∙ up) in
      (full, ap (λ zs. is_some (weight_of x.low x.high zs)) (sym used) ∙ none, same)
  placing_padded xs n x (Some k) after table blank ss up long is =
      let used = take_padded (length xs) n blank xs ss long is in
      let (count, all) = table (ap ascends used ∙ up) in
      let count' : k ≡ length (placed x ss) = count ∙ ap (λ zs. length (placed x zs)) used in
      let behind = drop_padded (length xs) k blank xs ss (omega (arith, placed_longer x ss)) is in
      (count', all ∙ ap₂ (λ zs ys. placed x zs ++ ys) used (behind ∙ ap (λ j. replicate (length xs - j) blank) count'))

  pub removing_padded : (xs : List (Section W)) (n low high : ℕ) (blank : Section W) (k : ℕ) (after : List (Section W)) → n ≤ length xs → (ascends (take n xs) ≡ true → Removing xs n low high blank k after) → RemovingPadded xs n low high blank k after
  removing_padded xs n low high blank k after within table ss up long is =
      let used = take_padded (length xs) n blank xs ss long is in
      let (count, all) = table (ap ascends used ∙ up) in
      let count' : k ≡ length (without low high ss) = count ∙ ap (λ zs. length (without low high zs)) used in
      let behind = drop_padded (length xs) n blank xs ss (omega arith) is in
      let sum : n - k + (length xs - n) ≡ length xs - length (without low high ss) = omega (arith, without_shorter low high ss) in
      let blanks = ap (λ ys. replicate (n - k) blank ++ ys) behind ∙ replicate-append-replicate (n - k) (length xs - n) blank ∙ ap (λ j. replicate j blank) sum in
      (count', all ∙ ap₂ (λ zs ys. without low high zs ++ ys) used blanks)
