-- Rows made from numbers, and the legs that a row makes. Assumes nothing.
use Rattle.std.proofs.Common.{◌≡◌, ℕ, zero, suc, ◌+◌, ◌-◌, ◌<◌, ◌≤◌, List, [], ◌∷◌, get_or, Some, None, Option, sym, refl, ap, ◌∙◌, subst, ap₂, inl, inr, ⊎_elim, zero-add, arith}
use Rattle.std.proofs.lemmas.List.{get_or_append_left, get_or-append_right, get_or_past}
use Rattle.std.proofs.lemmas.Bool.{cases_lt}
use Rattle.model.proofs.Laying.{length_tab}
use Rattle.model.specs.Levels.{grid_of, look, row}
use Rattle.model.specs.Lists.{stretch, tab}
use Rattle.model.specs.Networks.{Net}
use Rattle.model.specs.Tables.{emitted, leg, legs_of}
use Rattle.model.specs.declared.records.Leg.{Leg}
use Rattle.theory.specs.Sides.{Mem}

-- what stands at a place of a row
pub get_or_tab : {A : Type 0} (n : ℕ) (f : ℕ → A) (i : ℕ) (d : A) → i < n → get_or (tab n f) i d ≡ f i
unfolding stretch
get_or_tab zero f i d within = absurd (omega arith)
get_or_tab (suc n) f i d within =
    ⊎_elim
    (λ below. get_or_append_left (tab n f) (f n ∷ []) d i (subst (λ k. i < k) (sym (length_tab n f)) below) ∙ get_or_tab n f i d below)
    (λ above. let same : i ≡ n = omega arith in
    get_or-append_right (tab n f) (f n ∷ []) n i d (length_tab n f) above
    ∙ ap (λ k. get_or (f n ∷ []) k d) (let none : i - n ≡ 0 = omega arith in none) ∙ ap f (sym same))
    (cases_lt i n)

-- and beyond its end
pub get_or_tab_past : {A : Type 0} (n : ℕ) (f : ℕ → A) (i : ℕ) (d : A) → n ≤ i → get_or (tab n f) i d ≡ d
get_or_tab_past n f i d beyond = get_or_past (tab n f) i d (subst (λ k. k ≤ i) (sym (length_tab n f)) beyond)

-- a grid has what its network has between stations below n, and nothing else
pub look_grid : {W : Type 0} (n : ℕ) (G : Net W) (u v : ℕ) → u < n → v < n → look (grid_of n G) u v ≡ G u v
look_grid n G u v hu hv = ap (λ r. get_or r v None) (get_or_tab n (λ x. tab n (G x)) u [] hu) ∙ get_or_tab n (G u) v None hv

-- nothing is not something
pub none_some : {A : Type 0} (a : A) → None ≡ Some a → ⊥
none_some a e = let z : ◌≡◌ {A = ℕ} 0 1 = cc in absurd (omega arith)

pub some_same : {A : Type 0} (a b : A) → Some a ≡ Some b → a ≡ b
some_same a b e = cc

-- what a row makes comes from its weights
pub emitted_is : {A W : Type 0} (make : ℕ → W → A) (v : ℕ) (cells : List (Option W)) (x : A) → Mem x (emitted make v cells) → (i : ℕ) × ((a : W) × ((x ≡ make (v + i) a) × (get_or cells i None ≡ Some a)))
unfolding emitted
emitted_is make v [] x h = absurd h
emitted_is make v (None ∷ cells) x h =
    let (i, (a, (is, there))) = emitted_is make (suc v) cells x h in
    (suc i, (a, (is ∙ ap (λ k. make k a) (let same : suc v + i ≡ v + suc i = omega arith in same), there)))
emitted_is make v (Some a ∷ cells) x h =
    ⊎_elim (λ e. (0, (a, (e ∙ ap (λ k. make k a) (let same : v ≡ v + 0 = omega arith in same), refl))))
    (λ later.
    let (i, (b, (is, there))) = emitted_is make (suc v) cells x later in
    (suc i, (b, (is ∙ ap (λ k. make k b) (let same : suc v + i ≡ v + suc i = omega arith in same), there))))
    h

-- and each weight makes something
pub has_emitted : {A W : Type 0} (make : ℕ → W → A) (v : ℕ) (cells : List (Option W)) (i : ℕ) (a : W) → get_or cells i None ≡ Some a → Mem (make (v + i) a) (emitted make v cells)
unfolding emitted
has_emitted make v [] i a e = absurd (none_some a e)
has_emitted make v (None ∷ cells) zero a e = absurd (none_some a e)
has_emitted make v (None ∷ cells) (suc i) a e =
    subst (λ k. Mem (make k a) (emitted make (suc v) cells)) (let same : suc v + i ≡ v + suc i = omega arith in same) (has_emitted make (suc v) cells i a e)
has_emitted make v (Some b ∷ cells) zero a e =
    inl (ap₂ make (let same : v + 0 ≡ v = omega arith in same) (sym (some_same b a e)))
has_emitted make v (Some b ∷ cells) (suc i) a e =
    inr (subst (λ k. Mem (make k a) (emitted make (suc v) cells)) (let same : suc v + i ≡ v + suc i = omega arith in same) (has_emitted make (suc v) cells i a e))

-- from the first station on
pub row_is : {A W : Type 0} (make : ℕ → W → A) (cells : List (Option W)) (x : A) → Mem x (emitted make 0 cells) → (i : ℕ) × ((a : W) × ((x ≡ make i a) × (get_or cells i None ≡ Some a)))
row_is make cells x h =
    let (i, (a, (is, there))) = emitted_is make 0 cells x h in
    (i, (a, (is ∙ ap (λ k. make k a) (zero-add i), there)))

pub has_row : {A W : Type 0} (make : ℕ → W → A) (cells : List (Option W)) (i : ℕ) (a : W) → get_or cells i None ≡ Some a → Mem (make i a) (emitted make 0 cells)
has_row make cells i a e = subst (λ k. Mem (make k a) (emitted make 0 cells)) (zero-add i) (has_emitted make 0 cells i a e)

-- a grid has nothing beyond its stations
pub look_past : {W : Type 0} (n : ℕ) (G : Net W) (u v : ℕ) → u < n → n ≤ v → look (grid_of n G) u v ≡ None
look_past n G u v hu beyond = ap (λ r. get_or r v None) (get_or_tab n (λ x. tab n (G x)) u [] hu) ∙ get_or_tab_past n (G u) v None beyond

-- the legs of a station in a grid
pub grid_leg : {W : Type 0} (n : ℕ) (G : Net W) (u : ℕ) (l : Leg W) → u < n → Mem l (legs_of (grid_of n G) u) → (l.to < n) × (G u l.to ≡ Some l.weight)
grid_leg {W} n G u l hu h =
    let (i, (a, (is, there))) = row_is (leg u) (row (grid_of n G) u) l h in
    let to : l.to ≡ i = ap (λ (x : Leg W). x.to) is in
    let weight : l.weight ≡ a = ap (λ (x : Leg W). x.weight) is in
    let found : look (grid_of n G) u l.to ≡ Some l.weight = ap (look (grid_of n G) u) to ∙ there ∙ ap Some (sym weight) in
    ⊎_elim (λ below. (below, sym (look_grid n G u l.to hu below) ∙ found))
    (λ above. absurd (none_some l.weight (sym (look_past n G u l.to hu above) ∙ found)))
    (cases_lt l.to n)

pub has_grid_leg : {W : Type 0} (n : ℕ) (G : Net W) (u v : ℕ) (a : W) → u < n → v < n → G u v ≡ Some a → Mem (leg u v a) (legs_of (grid_of n G) u)
has_grid_leg n G u v a hu hv e = has_row (leg u) (row (grid_of n G) u) v a (look_grid n G u v hu hv ∙ e)
