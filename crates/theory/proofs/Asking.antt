-- The indexed query answers the best among all walks. Assumes nothing.
use Rattle.std.proofs.Common.{◌≡◌, ℕ, ◌*◌, ◌<◌, ◌⊎◌, replicate, Some, Option, sym, refl, ap, ◌∙◌, subst, ap₂, inl, inr, ⊎_elim, arith}
use Rattle.measure.specs.Meaning.{Meaning}
use Rattle.model.specs.Levels.{look, row}
use Rattle.model.specs.Networks.{Best, Net, cost}
use Rattle.model.specs.Queries.{entry_for, indexed_query, meeting, seeds, seeded, turned, two_sided}
use Rattle.model.specs.declared.slot.Slot.{Slot}
use Rattle.model.specs.declared.slot.Slot.TheVariants.{Free}
use Rattle.model.specs.Tables.{Built, entry, label_of}
use Rattle.model.specs.declared.records.Entry.{Entry}
use Rattle.theory.specs.Indexed.{IndexedIsRight, StandsOn, lev_of}
use Rattle.theory.specs.Laws.{NoWorse, TravelLaws}
use Rattle.theory.specs.Sides.{FromSeed, Mem, Side, key_at, keyed}
use Rattle.theory.specs.Towers.{back}
use Rattle.theory.specs.TwoSided.{UnderWay}
use Rattle.theory.proofs.BothSides.{Ended, search_is_right}
use Rattle.theory.proofs.Climbing.{Costing}
use Rattle.theory.proofs.Covering.{append, entries_are_walks, labels_cover, last_step, sink}
use Rattle.theory.proofs.Seeding.{entry_look, entry_look_for, look_entry_for, meeting_covers, meeting_kind, residual_entry, residual_some, seeded_turned, some_residual, start_side, start_slot}
use Rattle.theory.proofs.Tabs.{has_row}
use Rattle.theory.proofs.Turning.{turned_tower, turned_walk}
use Rattle.theory.proofs.Undone.{undone_most}
use Rattle.theory.proofs.Weighing.{turned_laws}

-- no way, or the cost of a walk
abbrev pub Reaches : {W : Type 0} → Meaning W → Net W → ℕ → ℕ → W → Type 0
Reaches m G s t c = (c ≡ m.no_way) ⊎ Costing m G t s c

-- what a search over a built index is seeded with from a station's label
abbrev pub seed_of : {W : Type 0} → Built W → ℕ → ℕ → Option W
seed_of b s x = residual_entry b.levels b.top b.labels s x

module _ {W : Type 0} (m : Meaning W) (laws : TravelLaws m) (n : ℕ) (b : Built W) (G : ℕ → Net W) (on : StandsOn m n b G) where
  -- entries as walks, out of a station and into it
  out_walk : (s w : ℕ) (d : W) → s < n → look b.labels s w ≡ Some d → Costing m (G 1) w s d
  out_walk s w d hs e = entries_are_walks m laws b.top (lev_of b) G (look b.labels) on.tower on.out_labels s w d (on.all_in s hs) e

  in_walk : (t w : ℕ) (d : W) → t < n → look b.labels t w ≡ Some d → Costing m (G 1) t w d
  in_walk t w d ht e =
      let (p, is) = entries_are_walks (turned m) (turned_laws m laws) b.top (lev_of b) (λ i. back (G i)) (look b.labels) (turned_tower m b.top (lev_of b) G on.tower) on.in_labels t w d (on.all_in t ht) e in
      let (q, same) = turned_walk m laws (G 1) p in
      (q, same ∙ is)

  -- keys as walks, from s and to t
  forward_walk : (s x : ℕ) (k : W) → s < n → FromSeed m (G b.top) (seed_of b s) x k → Costing m (G 1) x s k
  forward_walk s x k hs f =
      let (level, is) = residual_some b.levels b.top b.labels s f.start f.weight f.is_seed in
      let (p, front) = out_walk s f.start f.weight hs is in
      let (q, rest) = sink m laws b.top (lev_of b) G on.tower b.top on.some_level (omega arith) (cost m f.walk) (f.walk, refl) in
      let (whole, same) = append m laws p q in
      (whole, same ∙ ap₂ m.join front rest ∙ sym f.whole)

  reverse_walk : (t x : ℕ) (k : W) → t < n → FromSeed (turned m) (back (G b.top)) (seed_of b t) x k → Costing m (G 1) t x k
  reverse_walk t x k ht f =
      let (level, is) = residual_some b.levels b.top b.labels t f.start f.weight f.is_seed in
      let (p, end) = in_walk t f.start f.weight ht is in
      let (q, rest) = sink m laws b.top (lev_of b) G on.tower b.top on.some_level (omega arith) (cost (turned m) f.walk) (turned_walk m laws (G b.top) f.walk) in
      let (whole, same) = append m laws q p in
      (whole, same ∙ ap₂ m.join rest end ∙ sym f.whole)

  -- only residual stations have keys
  pub forward_residual : (s x : ℕ) (k : W) → FromSeed m (G b.top) (seed_of b s) x k → lev_of b x ≡ b.top
  forward_residual s x k f =
      let (level, is) = residual_some b.levels b.top b.labels s f.start f.weight f.is_seed in
      ⊎_elim (λ (here, none). ap (lev_of b) (sym here) ∙ level)
      (λ l. let inside = (on.tower.inside b.top l.before x l.weight on.some_level (omega arith) l.is_last).1 in omega arith)
      (last_step m laws f.walk)

  pub reverse_residual : (t x : ℕ) (k : W) → FromSeed (turned m) (back (G b.top)) (seed_of b t) x k → lev_of b x ≡ b.top
  reverse_residual t x k f =
      let (level, is) = residual_some b.levels b.top b.labels t f.start f.weight f.is_seed in
      ⊎_elim (λ (here, none). ap (lev_of b) (sym here) ∙ level)
      (λ l. let inside = (on.tower.inside b.top x l.before l.weight on.some_level (omega arith) l.is_last).0 in omega arith)
      (last_step (turned m) (turned_laws m laws) f.walk)

  module _ (s t : ℕ) (hs : s < n) (ht : t < n) where
    -- two keys of one station joined are a walk from s to t
    pub meet_in : (x : ℕ) (k j : W) → FromSeed m (G b.top) (seed_of b s) x k → FromSeed (turned m) (back (G b.top)) (seed_of b t) x j → Reaches m (G 1) s t (m.join k j)
    meet_in x k j f r =
        let (p, front) = forward_walk s x k hs f in
        let (q, rest) = reverse_walk t x j ht r in
        let (whole, same) = append m laws p q in
        inr (whole, same ∙ ap₂ m.join front rest)

    -- and so are two entries of one hub
    hub_walk : (x : Entry W) (d : W) → Mem x (label_of b.labels s) → entry_for x.hub (label_of b.labels t) ≡ Some d → Reaches m (G 1) s t (m.join x.weight d)
    hub_walk x d h e =
        let (p, front) = out_walk s x.hub x.weight hs (entry_look m laws n b.levels b.top b.labels s (on.hubs_below s) x h) in
        let (q, rest) = in_walk t x.hub d ht (entry_look_for b.labels t x.hub d e) in
        let (whole, same) = append m laws p q in
        inr (whole, same ∙ ap₂ m.join front rest)

    -- the meeting of the labels is no worse than a hub of both
    hub_covers : (w : ℕ) (a d : W) → look b.labels s w ≡ Some a → look b.labels t w ≡ Some d → NoWorse m (meeting m (label_of b.labels s) (label_of b.labels t)) (m.join a d)
    hub_covers w a d e f =
        meeting_covers m laws (label_of b.labels s) (label_of b.labels t) (entry w a) d (has_row entry (row b.labels s) w a e) (look_entry_for b.labels t w d f)

    idle_left : (f : Slot W) (c : W) → f ≡ Free → m.join (keyed m f) c ≡ m.no_way
    idle_left f c e = ap (λ x. m.join (keyed m x) c) e ∙ laws.no_way_left c

    idle_right : (c : W) (f : Slot W) → f ≡ Free → m.join c (keyed m f) ≡ m.no_way
    idle_right c f e = ap (λ x. m.join c (keyed m x)) e ∙ laws.no_way_right c

    start_meets : (x : ℕ) → NoWorse m (meeting m (label_of b.labels s) (label_of b.labels t)) (m.join (key_at m (seeded m b.levels b.top (label_of b.labels s) (replicate n Free)) x) (key_at m (seeded m b.levels b.top (label_of b.labels t) (replicate n Free)) x))
    start_meets x =
        ⊎_elim (λ none. lost (idle_left _ _ none))
        (λ (k, is, seed). ⊎_elim (λ none. lost (idle_right _ _ none))
        (λ (j, is', seed').
        let first = residual_some b.levels b.top b.labels s x k seed in
        let second = residual_some b.levels b.top b.labels t x j seed' in
        subst (NoWorse m _) (sym (ap₂ m.join (ap (keyed m) is) (ap (keyed m) is'))) (hub_covers x k j first.1 second.1))
        (start_slot m laws n b.levels b.top b.labels t (on.hubs_below t) x))
        (start_slot m laws n b.levels b.top b.labels s (on.hubs_below s) x)
      where
        lost : {c : W} → c ≡ m.no_way → NoWorse m (meeting m (label_of b.labels s) (label_of b.labels t)) c
        lost e = subst (NoWorse m _) (sym e) (laws.no_way_worst _)

    pub under_way : UnderWay m n (G b.top) (seed_of b s) (seed_of b t) (Reaches m (G 1) s t) (seeds m n b.levels b.top (label_of b.labels s) (label_of b.labels t))
    under_way =
        record {
          forward_ok = start_side m laws n b.levels b.top b.labels s (on.hubs_below s) (G b.top);
          reverse_ok =
              subst (Side (turned m) n (back (G b.top)) (seed_of b t)) (seeded_turned m b.levels b.top (label_of b.labels t) (replicate n Free))
              (start_side (turned m) (turned_laws m laws) n b.levels b.top b.labels t (on.hubs_below t) (back (G b.top)));
          meets = start_meets;
          kind = meeting_kind m laws (Reaches m (G 1) s t) (label_of b.labels s) (label_of b.labels t) (inl refl) hub_walk;
        }

    ends : Ended m (G b.top) (seed_of b s) (seed_of b t) (Reaches m (G 1) s t) (meeting m (label_of b.labels s) (label_of b.labels t)) (two_sided m b.rows (2 * n) (seeds m n b.levels b.top (label_of b.labels s) (label_of b.labels t)))
    ends =
        search_is_right m laws n (G b.top) b.rows (seed_of b s) (seed_of b t) (Reaches m (G 1) s t) meet_in
        (λ v k f. on.legs v (forward_residual s v k f)) (λ v k f. on.legs_back v (reverse_residual t v k f))
        (2 * n) _ under_way
        (let f = undone_most (seeded m b.levels b.top (label_of b.labels s) (replicate n Free)) in
        let r = undone_most (seeded m b.levels b.top (label_of b.labels t) (replicate n Free)) in
        let long = under_way.forward_ok.long in
        let long_back = under_way.reverse_ok.long in
        omega arith)

    pub indexed : Best m (G 1) s t (indexed_query m n b s t).cost
    indexed =
        record {
          none_better = λ p.
              ⊎_elim
              (λ h. laws.trans _ _ _ ends.improved (laws.trans _ _ _ (hub_covers h.hub h.first h.second h.is_out h.is_in) h.covers))
              (λ h. laws.trans _ _ _ (ends.right h.enter h.leave h.first h.second (some_residual b.levels b.top b.labels s h.enter h.first h.enters h.is_out) (some_residual b.levels b.top b.labels t h.leave h.second h.leaves h.is_in) h.walk) h.covers)
              (labels_cover m laws b.top (lev_of b) G (look b.labels) (look b.labels) on.some_level on.tower on.out_labels on.in_labels s t (on.all_in s hs) (on.all_in t ht) p);
          reached = ends.kind;
        }

pub indexed_is_right : {W : Type 0} (m : Meaning W) → TravelLaws m → IndexedIsRight m
indexed_is_right m laws n b G on s t hs ht = indexed m laws n b G on s t hs ht
