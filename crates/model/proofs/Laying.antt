-- Parts that lie one behind the other, and blanks behind what is in use. Assumes nothing.
use Rattle.std.proofs.Common.{◌≡◌, ℕ, zero, suc, ◌+◌, ◌-◌, ◌<◌, ◌≤◌, Bool, true, false, ◌||◌, eqb, leb, List, [], ◌∷◌, ◌++◌, length, get_or, take, drop, replicate, Some, None, Option, sym, refl, ap, ◌∙◌, subst, ⊎_elim, arith, length-append}
use lib.Seq.{drop-append-add}
use Rattle.std.proofs.lemmas.List.{get_or-append_right, get_or_past, get_or-replicate, length-replicate, take_at}
use Rattle.std.proofs.lemmas.Bool.{and_from, and_parts, cases_eq, cases_lt, cond_both, cond-true, eq-eqb, eqb-true, le-leb, leb-true, or_cases, or_left, or_right, both_ways}
use Rattle.measure.specs.Meaning.{Meaning}
use Rattle.model.specs.Levels.{level_at}
use Rattle.model.specs.Lists.{padded, stretch, tab}
use Rattle.model.specs.Records.{blank_entry, blank_leg, blank_station}
use Rattle.model.specs.Sound.{PartsLieThere, UnusedIsBlank, hubs_rise}
use Rattle.model.specs.Tables.{begins, begins_or_0, downward, emitted, entry, label_of, laid, legs_of, station_of, stations_at, upward, used_entries, used_legs}
use Rattle.model.specs.declared.records.Entry.{Entry}

-- a station stands in a list
abbrev pub holds : ℕ → List ℕ → Bool
holds v [] = false
holds v (u ∷ us) = eqb u v || holds v us

pub holds_left : (v : ℕ) (us ws : List ℕ) → holds v us ≡ true → holds v (us ++ ws) ≡ true
holds_left v [] ws h = absurd (both_ways false refl h)
holds_left v (u ∷ us) ws h =
    ⊎_elim (λ e. or_left (eqb u v) (holds v (us ++ ws)) e) (λ e. or_right (eqb u v) (holds v (us ++ ws)) (holds_left v us ws e)) (or_cases (eqb u v) (holds v us) h)

pub holds_right : (v : ℕ) (us ws : List ℕ) → holds v ws ≡ true → holds v (us ++ ws) ≡ true
holds_right v [] ws h = h
holds_right v (u ∷ us) ws h = or_right (eqb u v) (holds v (us ++ ws)) (holds_right v us ws h)

pub holds_stretch : (n : ℕ) (f : ℕ → List ℕ) (v : ℕ) → v < n → holds v (f v) ≡ true → holds v (stretch n f) ≡ true
unfolding stretch
holds_stretch zero f v within h = absurd (omega arith)
holds_stretch (suc n) f v within h =
    ⊎_elim (λ e. holds_right v (stretch n f) (f n) (subst (λ x. holds v (f x) ≡ true) e h))
    (λ e. holds_left v (stretch n f) (f n) (holds_stretch n f v (omega (arith, e)) h)) (cases_eq v n)

-- a station stands among those of its level
holds_level : (n : ℕ) (levels : List ℕ) (l v : ℕ) → v < n → level_at levels v ≡ l → holds v (stations_at n levels l) ≡ true
holds_level n levels l v within e =
    holds_stretch n _ v within
    (ap (holds v) (cond-true (eqb (level_at levels v) l) (v ∷ []) [] (eq-eqb (level_at levels v) l e)) ∙ or_left (eqb v v) false (eq-eqb v v refl))

-- and so in both orders up to a level that is not below its own
holds_upward : (n : ℕ) (levels : List ℕ) (top v : ℕ) → v < n → 1 ≤ level_at levels v → level_at levels v ≤ top → holds v (upward n levels top) ≡ true
unfolding upward
holds_upward n levels zero v within low high = absurd (omega arith)
holds_upward n levels (suc top) v within low high =
    ⊎_elim (λ e. holds_right v (upward n levels top) (stations_at n levels (suc top)) (holds_level n levels (suc top) v within e))
    (λ e. holds_left v (upward n levels top) (stations_at n levels (suc top)) (holds_upward n levels top v within low (omega (arith, e)))) (cases_eq (level_at levels v) (suc top))

holds_downward : (n : ℕ) (levels : List ℕ) (top v : ℕ) → v < n → 1 ≤ level_at levels v → level_at levels v ≤ top → holds v (downward n levels top) ≡ true
unfolding downward
holds_downward n levels zero v within low high = absurd (omega arith)
holds_downward n levels (suc top) v within low high =
    ⊎_elim (λ e. holds_left v (stations_at n levels (suc top)) (downward n levels top) (holds_level n levels (suc top) v within e))
    (λ e. holds_right v (stations_at n levels (suc top)) (downward n levels top) (holds_downward n levels top v within low (omega (arith, e)))) (cases_eq (level_at levels v) (suc top))

module _ {A : Type 0} (part : ℕ → List A) where
  -- the part of a station is found where it begins
  pub laid_part : (us : List ℕ) (v : ℕ) → holds v us ≡ true → take (length (part v)) (drop (begins part us v) (laid part us)) ≡ part v
  unfolding begins laid
  laid_part [] v h = absurd (both_ways false refl h)
  laid_part (u ∷ us) v h =
      cond_both (eqb u v) 0 (length (part u) + begins part us v) (λ b. take (length (part v)) (drop b (part u ++ laid part us)) ≡ part v)
      (λ e. subst (λ x. take (length (part v)) (part x ++ laid part us) ≡ part v) (sym (eqb-true u v e)) (take_at (part v) (laid part us) _ refl))
      (λ e. ap (take (length (part v))) (drop-append-add (part u) (laid part us) (begins part us v))
      ∙ laid_part us v (⊎_elim (λ t. absurd (both_ways (eqb u v) e t)) (λ t. t) (or_cases (eqb u v) (holds v us) h)))

  -- nothing is found anywhere
  take_none : (xs ys : List A) → length xs ≡ 0 → take (length xs) ys ≡ xs
  take_none [] ys e = refl
  take_none (x ∷ xs) ys e = absurd (omega arith)

  -- also where an empty part is said to begin at 0
  pub laid_part_or_0 : (us : List ℕ) (v : ℕ) → holds v us ≡ true → take (length (part v)) (drop (begins_or_0 part us v) (laid part us)) ≡ part v
  laid_part_or_0 us v h =
      cond_both (eqb (length (part v)) 0) 0 (begins part us v) (λ b. take (length (part v)) (drop b (laid part us)) ≡ part v)
      (λ e. take_none (part v) (laid part us) (eqb-true (length (part v)) 0 e)) (λ e. laid_part us v h)

module _ {W : Type 0} where
  hubs_lower : (a b : ℕ) (es : List (Entry W)) → a ≤ b → hubs_rise b es ≡ true → hubs_rise a es ≡ true
  hubs_lower a b [] h q = refl
  hubs_lower a b (e ∷ es) h q =
      let (first, rest) = and_parts (leb b e.hub) (hubs_rise (suc e.hub) es) q in
      and_from _ _ (le-leb a e.hub (omega (arith, leb-true b e.hub first))) rest

  entries_rise : (w : ℕ) (cells : List (Option W)) → hubs_rise w (emitted entry w cells) ≡ true
  unfolding emitted
  entries_rise w [] = refl
  entries_rise w (None ∷ cells) = hubs_lower w (suc w) (emitted entry (suc w) cells) (omega arith) (entries_rise (suc w) cells)
  entries_rise w (Some d ∷ cells) = and_from _ _ (le-leb w w (omega arith)) (entries_rise (suc w) cells)

  pub parts_lie_there : PartsLieThere W
  parts_lie_there n b u within low high =
      record {
        legs = laid_part_or_0 (legs_of b.rows) (upward n b.levels b.top) u (holds_upward n b.levels b.top u within low high);
        label = laid_part (label_of b.labels) (downward n b.levels b.top) u (holds_downward n b.levels b.top u within low high);
        rising = entries_rise 0 _;
      }

pub length_tab : {A : Type 0} (n : ℕ) (f : ℕ → A) → length (tab n f) ≡ n
unfolding stretch
length_tab zero f = refl
length_tab (suc n) f = length-append (tab n f) (f n ∷ []) ∙ omega (arith, length_tab n f)

-- behind what is in use a table is blank
blank_padded : {A : Type 0} (n : ℕ) (blank : A) (xs : List A) (i : ℕ) → length xs ≤ i → get_or (padded n blank xs) i blank ≡ blank
blank_padded n blank xs i beyond =
    get_or-append_right xs (replicate (n - length xs) blank) (length xs) i blank refl beyond
    ∙ ⊎_elim (λ h. get_or-replicate (n - length xs) (i - length xs) blank blank h) (λ h. get_or_past (replicate (n - length xs) blank) (i - length xs) blank (subst (λ k. k ≤ i - length xs) (sym (length-replicate (n - length xs) blank)) h)) (cases_lt (i - length xs) (n - length xs))

pub unused_is_blank : {W : Type 0} (m : Meaning W) → UnusedIsBlank m
unused_is_blank m n lengths b =
    record {
      stations = λ i beyond. blank_padded _ blank_station (tab n (station_of n b)) i (subst (λ k. k ≤ i) (sym (length_tab n (station_of n b))) beyond);
      legs = λ i beyond. blank_padded _ (blank_leg m) (used_legs n b) i beyond;
      spare = λ i. blank_padded _ (blank_leg m) [] i (omega arith);
      labels = λ i beyond. blank_padded _ (blank_entry m) (used_entries n b) i beyond;
    }
