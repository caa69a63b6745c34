-- The start of a search from labels. Assumes nothing.
use Rattle.std.proofs.Common.{◌≡◌, ℕ, zero, suc, ◌+◌, ◌<◌, Bool, true, false, cond, eqb, ◌⊎◌, List, [], ◌∷◌, length, get_or, set, replicate, Some, None, Option, sym, refl, ap, ◌∙◌, subst, ap₂, inl, inr, ⊎_elim, zero-add, arith}
use Rattle.std.proofs.lemmas.List.{length-replicate}
use Rattle.std.proofs.lemmas.Bool.{both_ways, cond-false, cond-true, eq-eqb, eqb-true, ne_eqb}
use Rattle.measure.specs.Meaning.{Meaning, better_of}
use Rattle.model.specs.Levels.{Grid, level_at, look, row}
use Rattle.model.specs.Lists.{by_some}
use Rattle.model.specs.Networks.{Net, stop}
use Rattle.model.specs.Queries.{entry_for, improves, meeting, offered, seeded, turned}
use Rattle.model.specs.Slots.{is_settled, key_of}
use Rattle.model.specs.declared.slot.Slot.{Slot}
use Rattle.model.specs.declared.slot.Slot.TheVariants.{Free, Settled, Waits}
use Rattle.model.specs.Tables.{emitted, entry, label_of}
use Rattle.model.specs.declared.records.Entry.{Entry}
use Rattle.theory.specs.Laws.{NoWorse, TravelLaws}
use Rattle.theory.specs.Sides.{Mem, Side, done_at, key_at, slot_at}
use Rattle.theory.proofs.PlainSearch.{idle_everywhere}
use Rattle.theory.proofs.Reaching.{better_either, better_left, better_right}
use Rattle.theory.proofs.Relaxing.{offering}
use Rattle.theory.proofs.Tabs.{has_row, none_some, row_is, some_same}
use Rattle.theory.proofs.Weighing.{no_worse_refl}

-- what seeding with some entries does
pub record Seeding {W : Type 0} (m : Meaning W) (levels : List ℕ) (top : ℕ) (es : List (Entry W)) (xs ys : List (Slot W)) : Type 0 where
  pub long : length ys ≡ length xs
  pub improved : (z : ℕ) → NoWorse m (key_at m ys z) (key_at m xs z)
  pub same_done : (z : ℕ) → done_at ys z ≡ done_at xs z
  pub changed : (z : ℕ) → (slot_at ys z ≡ slot_at xs z) ⊎ ((e : Entry W) × Mem e es × (level_at levels e.hub ≡ top) × (z ≡ e.hub) × (slot_at ys z ≡ Waits e.weight))
  pub reached : (e : Entry W) → Mem e es → level_at levels e.hub ≡ top → done_at xs e.hub ≡ false → NoWorse m (key_at m ys e.hub) e.weight

module _ {W : Type 0} (m : Meaning W) (laws : TravelLaws m) (levels : List ℕ) (top : ℕ) where
  seeding : (es : List (Entry W)) (xs : List (Slot W)) → ((e : Entry W) → Mem e es → e.hub < length xs) → Seeding m levels top es xs (seeded m levels top es xs)
  seeding [] xs within = record { long = refl; improved = λ z. no_worse_refl m laws _; same_done = λ z. refl; changed = λ z. inl refl; reached = λ e h. absurd h }
  seeding (e ∷ es) xs within =
      by_level (eqb (level_at levels e.hub) top) refl (seeding es (offered m e.hub e.weight xs) (λ l h. subst (λ k. l.hub < k) (sym (offering m laws e.hub e.weight xs (within e (inl refl))).long) (within l (inr h)))) (seeding es xs (λ l h. within l (inr h)))
    where
      by_level : (b : Bool) → eqb (level_at levels e.hub) top ≡ b → Seeding m levels top es (offered m e.hub e.weight xs) (seeded m levels top es (offered m e.hub e.weight xs)) → Seeding m levels top es xs (seeded m levels top es xs) → Seeding m levels top (e ∷ es) xs (seeded m levels top es (cond b (offered m e.hub e.weight xs) xs))
      by_level true is rest skipped =
          let here = offering m laws e.hub e.weight xs (within e (inl refl)) in
          record {
            long = rest.long ∙ here.long;
            improved = λ z. laws.trans _ _ _ (rest.improved z) (here.improved z);
            same_done = λ z. rest.same_done z ∙ here.same_done z;
            changed = λ z. ⊎_elim
                (λ same. ⊎_elim (λ old. inl (same ∙ old)) (λ (at, new). inr (e, inl refl, eqb-true _ top is, at, same ∙ new)) (here.changed z))
                (λ (l, h, level, at, new). inr (l, inr h, level, at, new)) (rest.changed z);
            reached = λ l h level undone. ⊎_elim
                (λ same. subst (λ x. NoWorse m (key_at m (seeded m levels top es (offered m e.hub e.weight xs)) x.hub) x.weight) (sym same)
                (laws.trans _ _ _ (rest.improved e.hub) (here.reached (λ done. absurd (both_ways _ (subst (λ x. done_at xs x.hub ≡ false) same undone) done)))))
                (λ later. rest.reached l later level (here.same_done l.hub ∙ undone)) h;
          }
      by_level false is rest skipped =
          record {
            long = skipped.long;
            improved = skipped.improved;
            same_done = skipped.same_done;
            changed = λ z. ⊎_elim inl (λ (l, h, level, at, new). inr (l, inr h, level, at, new)) (skipped.changed z);
            reached = λ l h level undone. ⊎_elim
                (λ same. absurd (both_ways _ is (eq-eqb _ top (subst (λ x. level_at levels x.hub ≡ top) same level))))
                (λ later. skipped.reached l later level undone) h;
          }

-- seeding is the same against the direction of travel
improves_turned : {W : Type 0} (m : Meaning W) (k : W) (x : Slot W) → improves (turned m) k x ≡ improves m k x
improves_turned m k Free = refl
improves_turned m k (Waits w) = refl
improves_turned m k (Settled w) = refl

pub seeded_turned : {W : Type 0} (m : Meaning W) (levels : List ℕ) (top : ℕ) (es : List (Entry W)) (xs : List (Slot W)) → seeded (turned m) levels top es xs ≡ seeded m levels top es xs
seeded_turned m levels top [] xs = refl
seeded_turned m levels top (e ∷ es) xs =
    seeded_turned m levels top es _
    ∙ ap (λ t. seeded m levels top es (cond (eqb (level_at levels e.hub) top) (cond t (set xs e.hub (Waits e.weight)) xs) xs)) (improves_turned m e.weight (slot_at xs e.hub))

-- the residual entries of a station's label
abbrev pub residual_entry : {W : Type 0} → List ℕ → ℕ → Grid W → ℕ → ℕ → Option W
residual_entry levels top labels s x = cond (eqb (level_at levels x) top) (look labels s x) None

pub residual_some : {W : Type 0} (levels : List ℕ) (top : ℕ) (labels : Grid W) (s x : ℕ) (a : W) → residual_entry levels top labels s x ≡ Some a → (level_at levels x ≡ top) × (look labels s x ≡ Some a)
residual_some levels top labels s x a e = by_level (eqb (level_at levels x) top) refl e
  where
    by_level : (b : Bool) → eqb (level_at levels x) top ≡ b → cond b (look labels s x) None ≡ Some a → (level_at levels x ≡ top) × (look labels s x ≡ Some a)
    by_level true is h = (eqb-true _ top is, h)
    by_level false is h = absurd (none_some a h)

pub some_residual : {W : Type 0} (levels : List ℕ) (top : ℕ) (labels : Grid W) (s x : ℕ) (a : W) → level_at levels x ≡ top → look labels s x ≡ Some a → residual_entry levels top labels s x ≡ Some a
some_residual levels top labels s x a level e = cond-true _ _ _ (eq-eqb _ top level) ∙ e

module _ {W : Type 0} (m : Meaning W) (laws : TravelLaws m) (n : ℕ) (levels : List ℕ) (top : ℕ) (labels : Grid W) (s : ℕ) (below : (w : ℕ) (d : W) → look labels s w ≡ Some d → w < n) where
  pub entry_look : (e : Entry W) → Mem e (label_of labels s) → look labels s e.hub ≡ Some e.weight
  entry_look e h =
      let (i, (a, (is, there))) = row_is entry (row labels s) e h in
      ap (look labels s) (ap (λ (x : Entry W). x.hub) is) ∙ there ∙ ap Some (sym (ap (λ (x : Entry W). x.weight) is))

  effect : Seeding m levels top (label_of labels s) (replicate n Free) (seeded m levels top (label_of labels s) (replicate n Free))
  effect = seeding m laws levels top (label_of labels s) (replicate n Free) (λ e h. subst (λ k. e.hub < k) (sym (length-replicate n Free)) (below e.hub e.weight (entry_look e h)))

  -- a slot is idle, or waits with the weight of a residual entry
  pub start_slot : (x : ℕ) → (slot_at (seeded m levels top (label_of labels s) (replicate n Free)) x ≡ Free) ⊎ ((k : W) × (slot_at (seeded m levels top (label_of labels s) (replicate n Free)) x ≡ Waits k) × (residual_entry levels top labels s x ≡ Some k))
  start_slot x =
      ⊎_elim (λ same. inl (same ∙ idle_everywhere m laws n x))
      (λ (e, h, level, at, new). inr (e.weight, new, subst (λ y. residual_entry levels top labels s y ≡ Some e.weight) (sym at) (some_residual levels top labels s e.hub e.weight level (entry_look e h))))
      (effect.changed x)

  pub undone_start : (x : ℕ) → done_at (seeded m levels top (label_of labels s) (replicate n Free)) x ≡ false
  undone_start x = effect.same_done x ∙ ap is_settled (idle_everywhere m laws n x)

  pub start_side : (R : Net W) → Side m n R (residual_entry levels top labels s) (seeded m levels top (label_of labels s) (replicate n Free))
  start_side R =
      record {
        long = effect.long ∙ length-replicate n Free;
        seeded = λ x a e.
            let (level, is) = residual_some levels top labels s x a e in
            effect.reached (entry x a) (has_row entry (row labels s) x a is) level (ap is_settled (idle_everywhere m laws n x));
        relaxed = λ x u a done e. absurd (both_ways _ (undone_start x) done);
        in_order = λ x z done undone. absurd (both_ways _ (undone_start x) done);
        real = λ x k e.
            ⊎_elim (λ none. absurd (none_some k (sym (ap key_of none) ∙ e)))
            (λ (j, is, seed).
            let key : j ≡ k = some_same j k (sym (ap key_of is) ∙ e) in
            record { start = x; weight = k; is_seed = seed ∙ ap Some key; walk = stop; whole = sym (laws.free_right k) })
            (start_slot x);
      }

-- a hub's entry, found or present
entry_mem : {W : Type 0} (w : ℕ) (es : List (Entry W)) (d : W) → entry_for w es ≡ Some d → Mem (entry w d) es
entry_mem w [] d e = absurd (none_some d e)
entry_mem {W} w (x ∷ es) d e = by_hub (eqb x.hub w) refl e (entry_mem w es d)
  where
    by_hub : (b : Bool) → eqb x.hub w ≡ b → cond b (Some x.weight) (entry_for w es) ≡ Some d → (entry_for w es ≡ Some d → Mem (entry w d) es) → Mem (entry w d) (x ∷ es)
    by_hub true is h later = inl (ap₂ entry (sym (eqb-true x.hub w is)) (sym (some_same x.weight d h)))
    by_hub false is h later = inr (later h)

pub entry_look_for : {W : Type 0} (labels : Grid W) (t w : ℕ) (d : W) → entry_for w (label_of labels t) ≡ Some d → look labels t w ≡ Some d
entry_look_for {W} labels t w d e =
    let (i, (a, (is, there))) = row_is entry (row labels t) (entry w d) (entry_mem w (label_of labels t) d e) in
    ap (look labels t) (ap (λ (x : Entry W). x.hub) is) ∙ there ∙ ap Some (sym (ap (λ (x : Entry W). x.weight) is))

for_emitted : {W : Type 0} (v : ℕ) (cells : List (Option W)) (i : ℕ) (d : W) → get_or cells i None ≡ Some d → entry_for (v + i) (emitted entry v cells) ≡ Some d
unfolding emitted
for_emitted v [] i d e = absurd (none_some d e)
for_emitted v (None ∷ cells) zero d e = absurd (none_some d e)
for_emitted v (None ∷ cells) (suc i) d e = subst (λ k. entry_for k (emitted entry (suc v) cells) ≡ Some d) (let same : suc v + i ≡ v + suc i = omega arith in same) (for_emitted (suc v) cells i d e)
for_emitted v (Some a ∷ cells) zero d e = cond-true _ _ _ (eq-eqb v (v + 0) (omega arith)) ∙ e
for_emitted v (Some a ∷ cells) (suc i) d e =
    cond-false _ _ _ (ne_eqb v (v + suc i) (λ h. omega arith)) ∙ subst (λ k. entry_for k (emitted entry (suc v) cells) ≡ Some d) (let same : suc v + i ≡ v + suc i = omega arith in same) (for_emitted (suc v) cells i d e)

pub look_entry_for : {W : Type 0} (labels : Grid W) (t w : ℕ) (d : W) → look labels t w ≡ Some d → entry_for w (label_of labels t) ≡ Some d
look_entry_for labels t w d e = subst (λ k. entry_for k (label_of labels t) ≡ Some d) (zero-add w) (for_emitted 0 (row labels t) w d e)

module _ {W : Type 0} (m : Meaning W) (laws : TravelLaws m) where
  -- the meeting of two labels is no worse than any common hub
  pub meeting_covers : (xs ys : List (Entry W)) (x : Entry W) (d : W) → Mem x xs → entry_for x.hub ys ≡ Some d → NoWorse m (meeting m xs ys) (m.join x.weight d)
  meeting_covers [] ys x d h e = absurd h
  meeting_covers (y ∷ xs) ys x d h e = ⊎_elim here (λ mem. at_hub (entry_for y.hub ys) refl _ (meeting_covers xs ys x d mem e)) h
    where
      at_hub : (r : Option W) → entry_for y.hub ys ≡ r → (c : W) → NoWorse m (meeting m xs ys) c → NoWorse m (by_some r (meeting m xs ys) (λ f. better_of m (m.join y.weight f) (meeting m xs ys))) c
      at_hub None is c less = less
      at_hub (Some f) is c less = laws.trans _ _ _ (better_right m laws _ _) less

      here : x ≡ y → NoWorse m (meeting m (y ∷ xs) ys) (m.join x.weight d)
      here same =
          let found : entry_for y.hub ys ≡ Some d = subst (λ z. entry_for z.hub ys ≡ Some d) same e in
          subst (λ r. NoWorse m (by_some r (meeting m xs ys) (λ f. better_of m (m.join y.weight f) (meeting m xs ys))) (m.join x.weight d)) (sym found)
          (subst (λ z. NoWorse m (better_of m (m.join y.weight d) (meeting m xs ys)) (m.join z.weight d)) (sym same) (better_left m laws _ _))

  -- and it is of a kind that no way and every common hub have
  pub meeting_kind : (Kind : W → Type 0) (xs ys : List (Entry W)) → Kind m.no_way → ((x : Entry W) (d : W) → Mem x xs → entry_for x.hub ys ≡ Some d → Kind (m.join x.weight d)) → Kind (meeting m xs ys)
  meeting_kind Kind [] ys none each = none
  meeting_kind Kind (y ∷ xs) ys none each = at_hub (entry_for y.hub ys) refl (meeting_kind Kind xs ys none (λ x d h e. each x d (inr h) e))
    where
      at_hub : (r : Option W) → entry_for y.hub ys ≡ r → Kind (meeting m xs ys) → Kind (by_some r (meeting m xs ys) (λ f. better_of m (m.join y.weight f) (meeting m xs ys)))
      at_hub None is rest = rest
      at_hub (Some f) is rest = better_either m laws Kind _ _ (each y f (inl refl) is) rest
