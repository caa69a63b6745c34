-- Walks one level up and down again. Assumes nothing.
use Rattle.std.proofs.Common.{◌≡◌, ℕ, Bool, true, false, Some, sym, refl, ap, ◌∙◌, subst, ap₂, inl, inr, ⊎_elim}
use Rattle.std.proofs.lemmas.Bool.{cases_eq}
use Rattle.measure.specs.Meaning.{Meaning}
use Rattle.model.specs.Networks.{Best, Net, Walk, stop, step, cost}
use Rattle.theory.specs.Ascent.{AscentPreserves, Next, Preserves}
use Rattle.theory.specs.Laws.{Has, NoWorse, TravelLaws}
use Rattle.theory.proofs.Weighing.{grows, mono, no_worse_refl}

-- a walk that is no worse than a given cost
abbrev pub Within : {W : Type 0} → Meaning W → Net W → ℕ → ℕ → W → Type 0
Within m H t s c = (p : Walk H t s) × NoWorse m (cost m p) c

-- a walk of a given cost
abbrev pub Costing : {W : Type 0} → Meaning W → Net W → ℕ → ℕ → W → Type 0
Costing m G t s c = (p : Walk G t s) × (cost m p ≡ c)

module _ {W : Type 0} (m : Meaning W) (laws : TravelLaws m) (picked : ℕ → Bool) (G H : Net W) (next : Next m picked G H) where
  -- a section no worse, and a walk on from its end
  onward : {t u : ℕ} (s : ℕ) (a c : W) → Has m H s u a → Within m H t u c → Within m H t s (m.join a c)
  onward {t} {u} s a c (b, is, ok) (p, less) = (step s u b is p, mono m laws b a (cost m p) c ok less)

  -- a way back to the start can be left out
  detour : {t s : ℕ} (a c : W) → Within m H t s c → Within m H t s (m.join a c)
  detour a c (p, less) = (p, laws.trans _ c _ less (grows m laws a c))

  stay : (t : ℕ) → Within m H t t m.free
  stay t = (stop, no_worse_refl m laws m.free)

  -- one section between unpicked stations, and a walk on
  over_section : {t : ℕ} (s u : ℕ) (a c : W) → picked s ≡ false → picked u ≡ false → G s u ≡ Some a → Within m H t u c → Within m H t s (m.join a c)
  over_section {t} s u a c hs hu e l =
      ⊎_elim (λ same. detour a c (subst (λ x. Within m H t x c) (sym same) l)) (λ other. onward s a c (next.keeps s u a hs hu other e) l) (cases_eq s u)

  -- two sections over a picked station, and a walk on
  over_station : {t : ℕ} (s v w : ℕ) (a b c : W) → picked s ≡ false → picked v ≡ true → picked w ≡ false → G s v ≡ Some a → G v w ≡ Some b → Within m H t w c → Within m H t s (m.join a (m.join b c))
  over_station {t} s v w a b c hs hv hw e f l =
      subst (Within m H t s) (laws.assoc a b c)
      (⊎_elim (λ same. detour (m.join a b) c (subst (λ x. Within m H t x c) (sym same) l)) (λ other. onward s (m.join a b) c (next.bridges s v w a b hs hv hw other e f) l) (cases_eq s w))

  -- a picked station leads to unpicked ones only
  pub leads_out : (v w : ℕ) (b : W) → picked v ≡ true → G v w ≡ Some b → picked w ≡ false
  leads_out v w b hv f = go (picked w) refl
    where
      go : (c : Bool) → picked w ≡ c → picked w ≡ false
      go false h = h
      go true h = absurd (next.independent v w b hv h f)

  -- every walk between unpicked stations has one above that is no worse
  pub lift : {t s : ℕ} (p : Walk G t s) → picked s ≡ false → picked t ≡ false → Within m H t s (cost m p)
  lift {t} stop hs ht = stay t
  lift {t} (step s u a e stop) hs ht = over_section s t a m.free hs ht e (stay t)
  lift {t} (step s u a e (step v w b f rest)) hs ht = through (picked v) refl (lift (step v w b f rest)) (lift rest)
    where
      through : (c : Bool) → picked v ≡ c
          → (picked v ≡ false → picked t ≡ false → Within m H t v (m.join b (cost m rest)))
          → (picked w ≡ false → picked t ≡ false → Within m H t w (cost m rest))
          → Within m H t s (m.join a (m.join b (cost m rest)))
      through false hv here there = over_section s v a _ hs hv e (here hv ht)
      through true hv here there = over_station s v w a b _ hs hv (leads_out v w b hv f) e f (there (leads_out v w b hv f) ht)

  -- one section above as one or two below
  expand : {t s u : ℕ} (a c : W) → H s u ≡ Some a → Costing m G t u c → Costing m G t s (m.join a c)
  expand {t} {s} {u} a c e (p, is) =
      ⊎_elim (λ below. (step s u a below p, ap (m.join a) is))
      (λ over. (
        step s over.by over.first over.from (step over.by u over.second over.to p),
        sym (laws.assoc over.first over.second (cost m p)) ∙ ap₂ m.join (sym over.joined) is,
      ))
      (next.made_of s u a e)

  -- every walk above has one below of the same cost
  pub lower : {t s : ℕ} (p : Walk H t s) → Costing m G t s (cost m p)
  lower stop = (stop, refl)
  lower (step s u a e rest) = expand a (cost m rest) e (lower rest)

  none_better_above : {t s : ℕ} (c : W) (p : Walk H t s) → Best m G s t c → NoWorse m c (cost m p)
  none_better_above c p best = let (q, is) = lower p in subst (NoWorse m c) is (best.none_better q)

  ascent : Preserves m picked G H
  ascent =
      record {
        up = λ s t c hs ht best.
            record {
              none_better = λ p. none_better_above c p best;
              reached =
                  ⊎_elim inl
                  (λ found. inr (let (q, less) = lift found.0 hs ht in (q, laws.antisym _ c (subst (NoWorse m (cost m q)) found.1 less) (none_better_above c q best))))
                  best.reached;
            };
        down = λ s t c hs ht best.
            record {
              none_better = λ p. let (q, less) = lift p hs ht in laws.trans c _ _ (best.none_better q) less;
              reached = ⊎_elim inl (λ found. inr (let (q, is) = lower found.0 in (q, is ∙ found.1))) best.reached;
            };
      }

pub ascent_preserves : {W : Type 0} (m : Meaning W) → TravelLaws m → AscentPreserves m
ascent_preserves m laws picked G H next = ascent m laws picked G H next
