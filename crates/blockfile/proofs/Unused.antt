-- The first byte that should be zero and is not.
use Rattle.std.proofs.Common.{◌≡◌, ℕ, ◌<◌, ◌≤◌, eqb, List, get_or, None, Some, Ok, Err, Option, ap, ◌∙◌, ◌-◌, arith}
use Rattle.std.specs.Option.{MatchOption}
use Rattle.std.proofs.lemmas.Bool.{eq-eqb, ne_eqb}
use Rattle.lists.proofs.Failing.{demand_holds, demand_fails, all_well, fault_first}
use Rattle.blockfile.specs.declared.fault.Flaw.TheVariants.{Unused}
use Rattle.blockfile.specs.Judging.{byte_judged, unused_judged}

-- what a search among the bytes from start on finds: none that is not zero, or the first
abbrev pub FirstUnused : List ℕ → ℕ → Option ℕ → Type 0
FirstUnused b start r =
    MatchOption r ((k : ℕ) → start ≤ k → k < 508 → get_or b k 0 ≡ 0)
    (λ i. (start ≤ i) × (i < 508) × (get_or b i 0 ≡ 0 → ⊥) × ((k : ℕ) → start ≤ k → k < i → get_or b k 0 ≡ 0))

byte_well : (b : List ℕ) (k : ℕ) → get_or b k 0 ≡ 0 → byte_judged b k ≡ Ok tt
byte_well b k h = demand_holds (eqb (get_or b k 0) 0) (Unused k) (Ok tt) (eq-eqb (get_or b k 0) 0 h)

pub unused_none : (b : List ℕ) (start : ℕ) (r : Option ℕ) → FirstUnused b start r → r ≡ None → unused_judged b start ≡ Ok tt
unused_none b start None h e = all_well (byte_judged b) (508 - start) start (λ k l m. byte_well b k (h k l (omega arith)))
unused_none b start (Some i) h e = cc

pub unused_some : (b : List ℕ) (start : ℕ) (r : Option ℕ) (i : ℕ) → FirstUnused b start r → r ≡ Some i → unused_judged b start ≡ Err (Unused i)
unused_some b start None i h e = cc
unused_some b start (Some k) i h e =
    let same : k ≡ i = cc in
    fault_first (byte_judged b) 508 start k (Unused k) h.0 h.1 (λ j l m. byte_well b j (h.3 j l m))
    (demand_fails (eqb (get_or b k 0) 0) (Unused k) (Ok tt) (ne_eqb (get_or b k 0) 0 h.2))
    ∙ ap (λ j. Err (Unused j)) same
