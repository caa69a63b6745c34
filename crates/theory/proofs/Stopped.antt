-- A two-sided search at rest. Assumes nothing.
use Rattle.std.proofs.Common.{◌≡◌, ℕ, Bool, ◌⊎◌, sym, ap, ◌∙◌, subst, inl, inr, ⊎_elim}
use Rattle.std.proofs.lemmas.Bool.{cases_Bool}
use Rattle.measure.specs.Meaning.{Meaning}
use Rattle.model.specs.Networks.{Net, Walk, stop, step, cost}
use Rattle.theory.specs.Laws.{NoWorse, TravelLaws}
use Rattle.theory.specs.Stopping.{AtRest, StopIsRight}
use Rattle.theory.proofs.Weighing.{grows, mono}

module _ {W : Type 0} (m : Meaning W) (laws : TravelLaws m) (G : Net W) (forward reverse : ℕ → W) (done done_back : ℕ → Bool) (least least_back best : W) (rest : AtRest m G forward reverse done done_back least least_back best) where
  -- from the end of a walk back to its start, either the keys follow it, or something that waits is no worse
  behind : {y x : ℕ} (b : W) → NoWorse m (reverse y) b → (q : Walk G y x) → NoWorse m (reverse x) (m.join (cost m q) b) ⊎ NoWorse m least_back (m.join (cost m q) b)
  behind b h stop = inl (subst (NoWorse m _) (sym (laws.free_left b)) h)
  behind {y} b h (step x u a e q) =
      ⊎_elim
      (λ follows. ⊎_elim (λ settled. inl (longer (laws.trans _ _ _ (rest.relaxed_back u x a settled e) (laws.mono_right _ _ a follows)))) (λ unsettled. inr (longer (laws.trans _ _ _ (rest.waiting_back u unsettled) (laws.trans _ _ _ follows (grows m laws a _))))) (cases_Bool (done_back u)))
      (λ waits. inr (longer (laws.trans _ _ _ waits (grows m laws a _))))
      (behind b h q)
    where
      longer : {k : W} → NoWorse m k (m.join a (m.join (cost m q) b)) → NoWorse m k (m.join (m.join a (cost m q)) b)
      longer {k} less = subst (NoWorse m k) (sym (laws.assoc a (cost m q) b)) less

  -- from a station that is keyed no worse than a, the best so far is no worse than a walk on
  ahead : {y x : ℕ} (a b : W) → NoWorse m (forward x) a → NoWorse m (reverse y) b → (q : Walk G y x) → NoWorse m best (m.join a (m.join (cost m q) b))
  ahead {y} a b hx hy stop =
      subst (λ c. NoWorse m best (m.join a c)) (sym (laws.free_left b)) (laws.trans _ _ _ (rest.meets y) (mono m laws _ _ _ _ hx hy))
  ahead {y} a b hx hy (step x u c e q) =
      ⊎_elim
      (λ follows. laws.trans _ _ _ (rest.meets x) (mono m laws _ _ _ _ hx follows))
      (λ waits. ⊎_elim
      (λ settled. subst (NoWorse m best) shifted (ahead (m.join a c) b (laws.trans _ _ _ (rest.relaxed x u c settled e) (laws.mono_left _ _ c hx)) hy q))
      (λ unsettled. laws.trans _ _ _ rest.stops (mono m laws _ _ _ _ (laws.trans _ _ _ (rest.waiting x unsettled) hx) waits))
      (cases_Bool (done x)))
      (behind b hy (step x u c e q))
    where
      shifted : m.join (m.join a c) (m.join (cost m q) b) ≡ m.join a (m.join (m.join c (cost m q)) b)
      shifted = laws.assoc a c (m.join (cost m q) b) ∙ ap (m.join a) (sym (laws.assoc c (cost m q) b))

pub stop_is_right : {W : Type 0} (m : Meaning W) → TravelLaws m → StopIsRight m
stop_is_right m laws G forward reverse done done_back least least_back best rest x y a b hx hy q =
    ahead m laws G forward reverse done done_back least least_back best rest a b hx hy q
