-- Networks, towers and walks turned round. Assumes nothing.
use Rattle.std.proofs.Common.{ℕ, Bool, sym, refl, ap, ◌∙◌, inl, inr, ⊎_elim}
use Rattle.measure.specs.Meaning.{Meaning}
use Rattle.model.specs.Networks.{Net, Walk, stop, step, cost}
use Rattle.model.specs.Queries.{turned}
use Rattle.theory.specs.Ascent.{Next}
use Rattle.theory.specs.Laws.{TravelLaws}
use Rattle.theory.specs.Towers.{Tower, back}
use Rattle.theory.proofs.Climbing.{Costing}
use Rattle.theory.proofs.Covering.{append}

turned_next : {W : Type 0} (m : Meaning W) (picked : ℕ → Bool) (G H : Net W) → Next m picked G H → Next (turned m) picked (back G) (back H)
turned_next m picked G H next =
    record {
      independent = λ u v a hu hv e. next.independent v u a hv hu e;
      unpicked = λ u w c e. let (a, b) = next.unpicked w u c e in (b, a);
      made_of = λ u w c e. ⊎_elim inl (λ o. inr (record { by = o.by; first = o.second; second = o.first; chosen = o.chosen; from = o.to; to = o.from; joined = o.joined })) (next.made_of w u c e);
      keeps = λ u w a hu hw apart e. next.keeps w u a hw hu (λ same. apart (sym same)) e;
      bridges = λ u v w a b hu hv hw apart e f. next.bridges w v u b a hw hv hu (λ same. apart (sym same)) f e;
    }

pub turned_tower : {W : Type 0} (m : Meaning W) (k : ℕ) (lev : ℕ → ℕ) (G : ℕ → Net W) → Tower m k lev G → Tower (turned m) k lev (λ i. back (G i))
turned_tower m k lev G tower =
    record {
      inside = λ i u v a low high e. let (hv, hu) = tower.inside i v u a low high e in (hu, hv);
      next = λ i low below. turned_next m _ (G i) (G _) (tower.next i low below);
    }

-- a walk against the direction of travel is a walk along it
pub turned_walk : {W : Type 0} (m : Meaning W) (laws : TravelLaws m) (G : Net W) {t s : ℕ} (p : Walk (back G) t s) → Costing m G s t (cost (turned m) p)
turned_walk m laws G stop = (stop, refl)
turned_walk m laws G (step s u a e rest) =
    let (q, is) = turned_walk m laws G rest in
    let (whole, same) = append m laws q (step u s a e stop) in
    (whole, same ∙ ap (λ c. m.join c (m.join a m.free)) is ∙ ap (m.join (cost (turned m) rest)) (laws.free_right a))
