-- What the writes of an amendment leave of a table. Assumes nothing.
use Rattle.std.proofs.Common.{◌≡◌, ℕ, ◌+◌, ◌-◌, ◌<◌, ◌≤◌, true, false, List, ◌∷◌, ◌++◌, length, take, drop, set, replicate, is_some, Some, sym, ap, ◌∙◌, subst, ap₂, arith}
use Rattle.std.proofs.lemmas.List.Edits.{length-insert, length-remove}
use Rattle.std.proofs.lemmas.List.{length-set, length-take-le, set-append_left, take-append-drop}
use Rattle.std.specs.List.{insert, remove}
use Rattle.model.specs.Sections.{place_of, placed, weight_of, without}
use Rattle.model.specs.declared.records.Section.{Section}
use Rattle.tables.specs.Amending.{Placing, Removing}
use Rattle.tables.specs.Finding.{has_at}
use Rattle.tables.proofs.Places.{has_at_within, place_within, placed_new, placed_there, without_none, without_there}

-- a write among the first records
set_first : {X : Type 0} (xs : List X) (n i : ℕ) (y : X) → n ≤ length xs → i < n → set xs i y ≡ set (take n xs) i y ++ drop n xs
set_first xs n i y within used =
    ap (λ zs. set zs i y) (sym (take-append-drop n xs)) ∙ set-append_left (take n xs) (drop n xs) i y (omega (arith, length-take-le n xs within))

module _ {W : Type 0} where
  pub placing_there : (xs : List (Section W)) (n : ℕ) (x : Section W) (p : ℕ) → n ≤ length xs → p ≡ place_of x.low x.high (take n xs) → has_at p x.low x.high (take n xs) ≡ true → Placing xs n x (Some n) (set xs p x)
  placing_there xs n x p within first has =
      let ss = take n xs in
      let long = length-take-le n xs within in
      let is : placed x ss ≡ set ss p x = placed_there x ss (subst (λ q. has_at q x.low x.high ss ≡ true) first has) ∙ ap (λ q. set ss q x) (sym first) in (
        sym (ap length is ∙ length-set ss p x ∙ long),
        set_first xs n p x within (omega (arith, has_at_within p x.low x.high ss has)) ∙ ap (λ zs. zs ++ drop n xs) (sym is),
      )

  pub placing_new : (xs : List (Section W)) (n : ℕ) (x : Section W) (p : ℕ) → n < length xs → p ≡ place_of x.low x.high (take n xs) → has_at p x.low x.high (take n xs) ≡ false → Placing xs n x (Some (n + 1)) (insert (take n xs) p x ++ drop (n + 1) xs)
  placing_new xs n x p room first has =
      let ss = take n xs in
      let long = length-take-le n xs (omega arith) in
      let within = place_within x.low x.high ss in
      let is : placed x ss ≡ insert ss p x = placed_new x ss (subst (λ q. has_at q x.low x.high ss ≡ false) first has) ∙ ap (λ q. insert ss q x) (sym first) in (
        sym (ap length is ∙ length-insert ss p x (omega arith) ∙ ap (λ k. k + 1) long),
        ap (λ zs. zs ++ drop (n + 1) xs) (sym is),
      )

  pub removing_there : (xs : List (Section W)) (n low high : ℕ) (blank : Section W) (p : ℕ) → n ≤ length xs → p ≡ place_of low high (take n xs) → has_at p low high (take n xs) ≡ true → Removing xs n low high blank (n - 1) (remove (take n xs) p ++ blank ∷ drop n xs)
  removing_there xs n low high blank p within first has =
      let ss = take n xs in
      let long = length-take-le n xs within in
      let used = has_at_within p low high ss has in
      let is : without low high ss ≡ remove ss p = without_there low high ss (subst (λ q. has_at q low high ss ≡ true) first has) ∙ ap (λ q. remove ss q) (sym first) in
      let one : 1 ≡ n - (n - 1) = omega arith in
      let less : n - 1 ≡ length (remove ss p) = omega (arith, length-remove ss p used) in
      (less ∙ ap length (sym is), ap₂ (λ zs k. zs ++ (replicate k blank ++ drop n xs)) (sym is) one)

  pub removing_none : (xs : List (Section W)) (n low high : ℕ) (blank : Section W) → n ≤ length xs → is_some (weight_of low high (take n xs)) ≡ false → Removing xs n low high blank n xs
  removing_none xs n low high blank within none =
      let ss = take n xs in
      let is = without_none low high ss none in
      let zero : 0 ≡ n - n = omega arith in
      (sym (ap length is ∙ length-take-le n xs within), sym (take-append-drop n xs) ∙ ap₂ (λ zs k. zs ++ (replicate k blank ++ drop n xs)) (sym is) zero)
