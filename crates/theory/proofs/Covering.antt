-- Labels over a tower of networks. Assumes nothing.
use Rattle.std.proofs.Common.{◌≡◌, ℕ, zero, suc, ◌+◌, ◌-◌, ◌<◌, ◌≤◌, true, ◌≢◌, ◌⊎◌, Some, sym, refl, ap, ◌∙◌, subst, ap₂, inl, inr, ⊎_elim, arith}
use Rattle.std.proofs.lemmas.Bool.{cases_eq, eq-eqb, ne_eqb}
use Rattle.measure.specs.Meaning.{Meaning}
use Rattle.model.specs.Networks.{Net, Walk, stop, step, cost}
use Rattle.theory.specs.Laws.{NoWorse, TravelLaws}
use Rattle.theory.specs.Towers.{ByLeg, Covered, EntriesAreWalks, In, InLabels, LabelsCover, OutLabels, Tower, at_level}
use Rattle.theory.proofs.Climbing.{Costing, lift, lower}
use Rattle.theory.proofs.Weighing.{no_worse_of}

-- a walk that ends with a given section
pub record Last {W : Type 0} (m : Meaning W) (G : Net W) (t s : ℕ) (c : W) : Type 0 where
  pub before : ℕ
  pub weight : W
  pub walk : Walk G before s
  pub is_last : G before t ≡ Some weight
  pub whole : c ≡ m.join (cost m walk) weight

module _ {W : Type 0} (m : Meaning W) (laws : TravelLaws m) where
  -- one walk behind another
  pub append : {G : Net W} {t u s : ℕ} (p : Walk G u s) (q : Walk G t u) → Costing m G t s (m.join (cost m p) (cost m q))
  append stop q = (q, sym (laws.free_left (cost m q)))
  append (step s v a e p) q =
      let (whole, is) = append p q in
      (step s v a e whole, ap (m.join a) is ∙ sym (laws.assoc a (cost m p) (cost m q)))

  -- a walk stays, or it has a last section
  pub last_step : {G : Net W} {t s : ℕ} (p : Walk G t s) → ((s ≡ t) × (cost m p ≡ m.free)) ⊎ Last m G t s (cost m p)
  last_step stop = inl (refl, refl)
  last_step {G} {t} (step s u a e p) =
      ⊎_elim
      (λ (here, none). inr (record { before = s; weight = a; walk = stop; is_last = subst (λ x. G s x ≡ Some a) here e; whole = ap (m.join a) none ∙ laws.free_right a ∙ sym (laws.free_left a) }))
      (λ l. inr (record {
        before = l.before;
        weight = l.weight;
        walk = step s u a e l.walk;
        is_last = l.is_last;
        whole = ap (m.join a) l.whole ∙ sym (laws.assoc a (cost m l.walk) l.weight);
      }))
      (last_step p)

  module _ (k : ℕ) (lev : ℕ → ℕ) (G : ℕ → Net W) (tower : Tower m k lev G) where
    at_own : (v i : ℕ) → lev v ≡ i → at_level lev i v ≡ true
    at_own v i e = eq-eqb (lev v) i e

    -- a section of a level's network joins no two stations of that level
    apart : (i u v : ℕ) (a : W) → 1 ≤ i → i < k → G i u v ≡ Some a → lev u ≡ i → lev v ≢ i
    apart i u v a low below e hu hv = (tower.next i low below).independent u v a (at_own u i hu) (at_own v i hv) e

    -- so a leg leads to a higher level
    higher : (i u v : ℕ) (a : W) → 1 ≤ i → i < k → G i u v ≡ Some a → lev u ≡ i → In lev k (suc i) v
    higher i u v a low below e hu =
        let inside = (tower.inside i u v a low (omega arith) e).1 in
        let other = apart i u v a low below e hu in
        (omega arith, inside.1)

    higher_back : (i u v : ℕ) (a : W) → 1 ≤ i → i < k → G i u v ≡ Some a → lev v ≡ i → In lev k (suc i) u
    higher_back i u v a low below e hv =
        let inside = (tower.inside i u v a low (omega arith) e).0 in
        let other : lev u ≢ i = λ hu. apart i u v a low below e hu hv in
        (omega arith, inside.1)

    -- a walk of any level's network as one of the lowest
    pub sink : (i : ℕ) → 1 ≤ i → i ≤ k → {t s : ℕ} (c : W) → Costing m (G i) t s c → Costing m (G 1) t s c
    sink zero low high c p = absurd (omega arith)
    sink (suc zero) low high c p = p
    sink (suc (suc i)) low high c (p, is) =
        let (q, same) = lower m laws (at_level lev (suc i)) (G (suc i)) (G (suc (suc i))) (tower.next (suc i) (omega arith) (omega arith)) p in
        sink (suc i) (omega arith) (omega arith) c (q, same ∙ is)

    -- a leg as a walk of the lowest network
    leg_walk : (v u : ℕ) (a : W) → In lev k 1 v → G (lev v) v u ≡ Some a → Costing m (G 1) u v a
    leg_walk v u a inside e = sink (lev v) inside.0 inside.1 a (step v u a e stop, laws.free_right a)

    module _ (out : Net W) (labels : OutLabels m k lev G out) where
      own_walk : (v w : ℕ) (d : W) → (v ≡ w) × (d ≡ m.free) → Costing m (G 1) w v d
      own_walk v w d (here, none) = subst (λ x. Costing m (G 1) x v d) here (stop, sym none)

      over_leg : (v w : ℕ) (d : W) → In lev k 1 v → (l : ByLeg m k lev G out v w d) → Costing m (G 1) w l.to l.rest → Costing m (G 1) w v d
      over_leg v w d inside l (q, rest) =
          let (p, front) = leg_walk v l.to l.leg inside l.is_leg in
          let (whole, is) = append p q in
          (whole, is ∙ ap₂ m.join front rest ∙ sym l.joined)

      entry_walk : (levels v w : ℕ) (d : W) → In lev k 1 v → k ≤ lev v + levels → out v w ≡ Some d → Costing m (G 1) w v d
      entry_walk zero v w d inside room e =
          ⊎_elim (own_walk v w d) (λ l. let below = l.below in absurd (omega arith)) (labels.made_of v w d inside e)
      entry_walk (suc levels) v w d inside room e =
          ⊎_elim (own_walk v w d)
          (λ l.
          let above : In lev k (suc (lev v)) l.to = higher (lev v) v l.to l.leg inside.0 l.below l.is_leg refl in
          over_leg v w d inside l (entry_walk levels l.to w l.rest (omega arith, above.1) (omega arith) l.is_entry))
          (labels.made_of v w d inside e)

    module _ (out into : Net W) (outs : OutLabels m k lev G out) (ins : InLabels m k lev G into) where
      weaken : (s t : ℕ) (c d : W) → NoWorse m c d → Covered m k lev (G k) out into s t c → Covered m k lev (G k) out into s t d
      weaken s t c d less =
          ⊎_elim
          (λ h. inl (record { hub = h.hub; first = h.first; second = h.second; is_out = h.is_out; is_in = h.is_in; covers = laws.trans _ c d h.covers less }))
          (λ h. inr (record {
            enter = h.enter;
            leave = h.leave;
            first = h.first;
            second = h.second;
            enters = h.enters;
            leaves = h.leaves;
            is_out = h.is_out;
            is_in = h.is_in;
            walk = h.walk;
            covers = laws.trans _ c d h.covers less;
          }))

      -- a leg in front
      from_leg : (s u t : ℕ) (a c : W) → 1 ≤ lev s → lev s < k → G (lev s) s u ≡ Some a → Covered m k lev (G k) out into u t c → Covered m k lev (G k) out into s t (m.join a c)
      from_leg s u t a c low below e =
          ⊎_elim
          (λ h.
          let (b, is, ok) = outs.over s u h.hub a h.first low below e h.is_out in
          inl (record { hub = h.hub; first = b; second = h.second; is_out = is; is_in = h.is_in; covers = in_front b h.first h.second ok h.covers }))
          (λ h.
          let (b, is, ok) = outs.over s u h.enter a h.first low below e h.is_out in
          inr (record {
            enter = h.enter;
            leave = h.leave;
            first = b;
            second = h.second;
            enters = h.enters;
            leaves = h.leaves;
            is_out = is;
            is_in = h.is_in;
            walk = h.walk;
            covers = in_front b h.first (m.join (cost m h.walk) h.second) ok h.covers;
          }))
        where
          in_front : (b d rest : W) → NoWorse m b (m.join a d) → NoWorse m (m.join d rest) c → NoWorse m (m.join b rest) (m.join a c)
          in_front b d rest ok less =
              laws.trans _ _ _ (laws.mono_left b (m.join a d) rest ok) (subst (λ x. NoWorse m x (m.join a c)) (sym (laws.assoc a d rest)) (laws.mono_right _ c a less))

      -- a leg behind
      to_leg : (s v t : ℕ) (b c : W) → 1 ≤ lev t → lev t < k → G (lev t) v t ≡ Some b → Covered m k lev (G k) out into s v c → Covered m k lev (G k) out into s t (m.join c b)
      to_leg s v t b c low below e =
          ⊎_elim
          (λ h.
          let (d, is, ok) = ins.over t v h.hub b h.second low below e h.is_in in
          inl (record { hub = h.hub; first = h.first; second = d; is_out = h.is_out; is_in = is; covers = behind h.first h.second d ok h.covers }))
          (λ h.
          let (d, is, ok) = ins.over t v h.leave b h.second low below e h.is_in in
          inr (record {
            enter = h.enter;
            leave = h.leave;
            first = h.first;
            second = d;
            enters = h.enters;
            leaves = h.leaves;
            is_out = h.is_out;
            is_in = is;
            walk = h.walk;
            covers =
                subst (λ x. NoWorse m x (m.join c b)) (laws.assoc h.first (cost m h.walk) d)
                (behind (m.join h.first (cost m h.walk)) h.second d ok (subst (λ x. NoWorse m x c) (sym (laws.assoc h.first (cost m h.walk) h.second)) h.covers));
          }))
        where
          behind : (front second d : W) → NoWorse m d (m.join second b) → NoWorse m (m.join front second) c → NoWorse m (m.join front d) (m.join c b)
          behind front second d ok less =
              laws.trans _ _ _ (laws.mono_right d (m.join second b) front ok) (subst (λ x. NoWorse m x (m.join c b)) (laws.assoc front second b) (laws.mono_left _ c b less))

      -- at the top a walk covers itself
      at_top : 1 ≤ k → (s t : ℕ) → In lev k k s → In lev k k t → (p : Walk (G k) t s) → Covered m k lev (G k) out into s t (cost m p)
      at_top low s t hs ht p =
          inr (record {
            enter = s;
            leave = t;
            first = m.free;
            second = m.free;
            enters = omega arith;
            leaves = omega arith;
            is_out = outs.own s (omega arith, hs.1);
            is_in = ins.own t (omega arith, ht.1);
            walk = p;
            covers = no_worse_of m laws _ _ (laws.free_left _ ∙ laws.free_right (cost m p));
          })

      module _ (i : ℕ) (low : 1 ≤ i) (below : i < k) (above : (s t : ℕ) → In lev k (suc i) s → In lev k (suc i) t → (p : Walk (G (suc i)) t s) → Covered m k lev (G k) out into s t (cost m p)) where
        both_above : (s t : ℕ) → In lev k (suc i) s → In lev k (suc i) t → (p : Walk (G i) t s) → Covered m k lev (G k) out into s t (cost m p)
        both_above s t hs ht p =
            let (q, less) = lift m laws (at_level lev i) (G i) (G (suc i)) (tower.next i low below) p (ne_eqb (lev s) i (λ e. omega arith)) (ne_eqb (lev t) i (λ e. omega arith)) in
            weaken s t (cost m q) (cost m p) less (above s t hs ht q)

        from_above : (s t : ℕ) → In lev k (suc i) s → In lev k i t → (p : Walk (G i) t s) → Covered m k lev (G k) out into s t (cost m p)
        from_above s t hs ht p =
            ⊎_elim
            (λ here. ⊎_elim
            (λ (same, none). absurd (let level : lev s ≡ lev t = ap lev same in omega arith))
            (λ l.
            let up = higher_back i l.before t l.weight low below l.is_last here in
            subst (Covered m k lev (G k) out into s t) (sym l.whole)
            (to_leg s l.before t l.weight _ (omega arith) (omega arith) (subst (λ j. G j l.before t ≡ Some l.weight) (sym here) l.is_last) (both_above s l.before hs up l.walk)))
            (last_step p))
            (λ other. both_above s t hs (omega arith, ht.1) p)
            (cases_eq (lev t) i)

        from_level : {t s : ℕ} → lev s ≡ i → In lev k i t → (p : Walk (G i) t s) → Covered m k lev (G k) out into s t (cost m p)
        from_level {t} here ht stop =
            let inside : In lev k 1 t = (omega arith, ht.1) in
            inl (record { hub = t; first = m.free; second = m.free; is_out = outs.own t inside; is_in = ins.own t inside; covers = no_worse_of m laws _ _ (laws.free_left m.free) })
        from_level {t} here ht (step s u a e p) =
            from_leg s u t a (cost m p) (omega arith) (omega arith) (subst (λ j. G j s u ≡ Some a) (sym here) e) (from_above u t (higher i s u a low below e here) ht p)

        one_below : (s t : ℕ) → In lev k i s → In lev k i t → (p : Walk (G i) t s) → Covered m k lev (G k) out into s t (cost m p)
        one_below s t hs ht p = ⊎_elim (λ here. from_level here ht p) (λ other. from_above s t (omega arith, hs.1) ht p) (cases_eq (lev s) i)

      -- downward from the top, so many levels
      cover : (levels i : ℕ) → 1 ≤ i → i + levels ≡ k → (s t : ℕ) → In lev k i s → In lev k i t → (p : Walk (G i) t s) → Covered m k lev (G k) out into s t (cost m p)
      cover zero i low e = subst (λ j. (s t : ℕ) → In lev k j s → In lev k j t → (p : Walk (G j) t s) → Covered m k lev (G k) out into s t (cost m p)) (let same : k ≡ i = omega arith in same) (at_top (omega arith))
      cover (suc levels) i low e = one_below i low (omega arith) (cover levels (suc i) (omega arith) (omega arith))

pub entries_are_walks : {W : Type 0} (m : Meaning W) → TravelLaws m → EntriesAreWalks m
entries_are_walks m laws k lev G out tower labels v w d inside e = entry_walk m laws k lev G tower out labels k v w d inside (omega arith) e

pub labels_cover : {W : Type 0} (m : Meaning W) → TravelLaws m → LabelsCover m
labels_cover m laws k lev G out into low tower outs ins s t hs ht p = cover m laws k lev G tower out into outs ins (k - 1) 1 (omega arith) (omega arith) s t hs ht p
