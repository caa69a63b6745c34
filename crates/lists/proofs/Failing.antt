-- Judgements one after another, and the first fault among several places.
use Rattle.std.proofs.Common.{◌≡◌, ℕ, zero, suc, ◌+◌, ◌-◌, ◌<◌, ◌≤◌, Bool, true, false, Ok, Err, Result, refl, ap, ◌∙◌, ap₂, ⊎_elim, arith}
use Rattle.std.proofs.lemmas.Bool.{cases_eq}
use Rattle.lists.specs.Places.{demand, then, first_fault}

pub demand_holds : {X F : Type 0} (b : Bool) (f : F) (next : Result X F) → b ≡ true → demand b f next ≡ next
demand_holds b f next e = ap (λ t. demand t f next) e

pub demand_fails : {X F : Type 0} (b : Bool) (f : F) (next : Result X F) → b ≡ false → demand b f next ≡ Err f
demand_fails b f next e = ap (λ t. demand t f next) e

-- what was accepted passed each judgement
pub demand_ok : {X F : Type 0} (b : Bool) (f : F) (next : Result X F) (x : X) → demand b f next ≡ Ok x → (b ≡ true) × (next ≡ Ok x)
demand_ok true f next x e = (refl, e)
demand_ok false f next x e = let z : ◌≡◌ {A = ℕ} 0 1 = cc in absurd (omega arith)

pub then_ok : {X F : Type 0} (r : Result (Unit {0}) F) (next : Result X F) (x : X) → then r next ≡ Ok x → (r ≡ Ok tt) × (next ≡ Ok x)
then_ok (Ok y) next x e = (refl, e)
then_ok (Err f) next x e = let z : ◌≡◌ {A = ℕ} 0 1 = cc in absurd (omega arith)

-- where no place has a fault, each is judged well
pub none_at : {F : Type 0} (judge : ℕ → Result (Unit {0}) F) (left at : ℕ) → first_fault judge left at ≡ Ok tt → (k : ℕ) → at ≤ k → k < at + left → judge k ≡ Ok tt
unfolding first_fault
none_at judge zero at e k l h = absurd (omega arith)
none_at judge (suc left) at e k l h =
    let s = then_ok (judge at) (first_fault judge left (suc at)) tt e in
    ⊎_elim (λ (q : k ≡ at). ap judge q ∙ s.0) (λ q. none_at judge left (suc at) s.1 k (omega arith) (omega arith)) (cases_eq k at)

-- where each place is judged well, there is no fault
pub all_well : {F : Type 0} (judge : ℕ → Result (Unit {0}) F) (left at : ℕ) → ((k : ℕ) → at ≤ k → k < at + left → judge k ≡ Ok tt) → first_fault judge left at ≡ Ok tt
unfolding first_fault
all_well judge zero at h = refl
all_well judge (suc left) at h =
    ap (λ r. then r (first_fault judge left (suc at))) (h at (omega arith) (omega arith))
    ∙ all_well judge left (suc at) (λ k l m. h k (omega arith) (omega arith))

pub fault_none : {F : Type 0} (judge : ℕ → Result (Unit {0}) F) (end at : ℕ) → end ≤ at → first_fault judge (end - at) at ≡ Ok tt
unfolding first_fault
fault_none judge end at l = let e : end - at ≡ 0 = omega arith in ap (λ n. first_fault judge n at) e

-- one turn of a loop that goes on where a place is judged well, and the turn where it stops
pub fault_more : {F : Type 0} (judge : ℕ → Result (Unit {0}) F) (end at : ℕ) → at < end → judge at ≡ Ok tt → first_fault judge (end - at) at ≡ first_fault judge (end - (at + 1)) (at + 1)
unfolding first_fault
fault_more judge end at l h =
    let e : end - at ≡ suc (end - (at + 1)) = omega arith in
    let f : suc at ≡ at + 1 = omega arith in
    ap (λ n. first_fault judge n at) e
    ∙ ap (λ r. then r (first_fault judge (end - (at + 1)) (suc at))) h
    ∙ ap (first_fault judge (end - (at + 1))) f

pub fault_here : {F : Type 0} (judge : ℕ → Result (Unit {0}) F) (end at : ℕ) (f : F) → at < end → judge at ≡ Err f → first_fault judge (end - at) at ≡ Err f
unfolding first_fault
fault_here judge end at f l h =
    let e : end - at ≡ suc (end - (at + 1)) = omega arith in
    ap (λ n. first_fault judge n at) e
    ∙ ap (λ r. then r (first_fault judge (end - (at + 1)) (suc at))) h

-- where each place before at + n is judged well, the first fault is that from there on
pub fault_skip : {F : Type 0} (judge : ℕ → Result (Unit {0}) F) (n left at : ℕ) → ((k : ℕ) → at ≤ k → k < at + n → judge k ≡ Ok tt) → first_fault judge (n + left) at ≡ first_fault judge left (at + n)
unfolding first_fault
fault_skip judge zero left at h =
    let e : 0 + left ≡ left = omega arith in
    let f : at ≡ at + 0 = omega arith in
    ap₂ (first_fault judge) e f
fault_skip judge (suc n) left at h =
    let d : suc n + left ≡ suc (n + left) = omega arith in
    let e : suc at + n ≡ at + suc n = omega arith in
    ap (λ m. first_fault judge m at) d
    ∙ ap (λ r. then r (first_fault judge (n + left) (suc at))) (h at (omega arith) (omega arith))
    ∙ fault_skip judge n left (suc at) (λ k l m. h k (omega arith) (omega arith))
    ∙ ap (first_fault judge left) e

-- the first place that is not judged well gives the fault
pub fault_first : {F : Type 0} (judge : ℕ → Result (Unit {0}) F) (end at i : ℕ) (f : F) → at ≤ i → i < end → ((k : ℕ) → at ≤ k → k < i → judge k ≡ Ok tt) → judge i ≡ Err f → first_fault judge (end - at) at ≡ Err f
fault_first judge end at i f l m h e =
    let split : end - at ≡ (i - at) + (end - i) = omega arith in
    let here : at + (i - at) ≡ i = omega arith in
    ap (λ n. first_fault judge n at) split
    ∙ fault_skip judge (i - at) (end - i) at (λ k low high. h k low (omega arith))
    ∙ ap (first_fault judge (end - i)) here
    ∙ fault_here judge end i f m e
