-- How many stations an indexed query settles. Assumes nothing.
use Rattle.std.proofs.Common.{◌≡◌, ℕ, zero, suc, ◌+◌, ◌*◌, ◌<◌, ◌≤◌, Bool, true, false, cond, eqb, ◌≢◌, List, length, set, Some, None, Option, sym, refl, ap, ◌∙◌, subst, ap₂, ⊎_elim, arith, length-set, get_or-set_other, get_or-set_same}
use Rattle.std.proofs.lemmas.Bool.{both_ways, cases_eq, eq-eqb}
use Rattle.measure.specs.Meaning.{Meaning, better}
use Rattle.model.specs.Levels.{Grid, sum_below}
use Rattle.model.specs.Lists.{by_some, choose}
use Rattle.model.specs.Networks.{Net}
use Rattle.model.specs.Queries.{Search, forward_step, next_step, reached, reverse_step, seeds, turned, two_sided}
use Rattle.model.specs.Slots.{is_settled, key_of, least_from}
use Rattle.model.specs.declared.slot.Slot.{Slot}
use Rattle.model.specs.declared.slot.Slot.TheVariants.{Free, Settled, Waits}
use Rattle.model.specs.Tables.{label_of, legs_of}
use Rattle.model.specs.declared.records.Leg.{Leg}
use Rattle.theory.specs.Indexed.{SettlesFew, lev_of}
use Rattle.theory.specs.Laws.{TravelLaws}
use Rattle.theory.specs.Sides.{FromSeed, LegsOf, done_at, slot_at}
use Rattle.theory.specs.Towers.{back}
use Rattle.theory.specs.TwoSided.{MeetsIn, UnderWay}
use Rattle.theory.proofs.Asking.{Reaches, forward_residual, meet_in, reverse_residual, seed_of, under_way}
use Rattle.theory.proofs.BothSides.{first_key, forward_way, reverse_way}
use Rattle.theory.proofs.Leasts.{First, Found, found}
use Rattle.theory.proofs.PlainSearch.{ranks}
use Rattle.theory.proofs.Reaching.{reached_slots}
use Rattle.theory.proofs.Relaxing.{relaxing}
use Rattle.theory.proofs.Seeding.{undone_start}
use Rattle.theory.proofs.Weighing.{turned_laws}

-- sums of which one term is one more, and of which no term is more
sum_one_more : (n : ℕ) (f g : ℕ → ℕ) (v : ℕ) → v < n → g v ≡ suc (f v) → ((u : ℕ) → u ≢ v → g u ≡ f u) → sum_below n g ≡ suc (sum_below n f)
unfolding sum_below
sum_one_more zero f g v within more same = absurd (omega arith)
sum_one_more (suc n) f g v within more same =
    ⊎_elim
    (λ here. let rest = sum_equal n f g (λ u h. same u (λ e. omega arith)) in let last : g n ≡ suc (f n) = subst (λ x. g x ≡ suc (f x)) here more in omega arith)
    (λ other. let rest = sum_one_more n f g v (omega arith) more same in let last = same n (λ e. other (sym e)) in omega arith)
    (cases_eq v n)
  where
    sum_equal : (k : ℕ) (a b : ℕ → ℕ) → ((u : ℕ) → u < k → b u ≡ a u) → sum_below k b ≡ sum_below k a
    sum_equal zero a b eq = refl
    sum_equal (suc k) a b eq = ap₂ ◌+◌ (sum_equal k a b (λ u h. eq u (omega arith))) (eq k (omega arith))

sum_most : (n : ℕ) (f g : ℕ → ℕ) → ((u : ℕ) → u < n → f u ≤ g u) → sum_below n f ≤ sum_below n g
unfolding sum_below
sum_most zero f g less = omega arith
sum_most (suc n) f g less = let rest = sum_most n f g (λ u h. less u (omega arith)) in let last = less n (omega arith) in omega arith

-- how many stations are settled on a side
abbrev pub settled_on : {W : Type 0} → ℕ → List (Slot W) → ℕ
settled_on n xs = sum_below n (λ u. cond (done_at xs u) 1 0)

module _ {W : Type 0} (m : Meaning W) (laws : TravelLaws m) (n : ℕ) where
  -- settling one more
  more_settled : (mine other : List (Slot W)) (best : W) (v : ℕ) (k : W) (legs : List (Leg W)) (R : Net W) → length mine ≡ n → First m.leb 0 mine v k → LegsOf n R v legs → settled_on n (reached m k legs (set mine v (Settled k)) other best).0 ≡ suc (settled_on n mine)
  more_settled mine other best v k legs R long first own =
      let at : v ≡ first.place = let e = first.is_there in omega arith in
      let within : v < length mine = let h = first.within in omega arith in
      let waiting : slot_at mine v ≡ Waits k = ap (slot_at mine) at ∙ first.waiting in
      let r = relaxing m laws k legs (set mine v (Settled k)) (λ l h. subst (λ j. l.to < j) (sym (length-set mine v (Settled k) ∙ long)) (own.sections l h).0) in
      let slots = reached_slots m laws k legs (set mine v (Settled k)) other best in
      let done : (u : ℕ) → done_at (reached m k legs (set mine v (Settled k)) other best).0 u ≡ done_at (set mine v (Settled k)) u = λ u. ap (λ ys. done_at ys u) slots ∙ r.same_done u in
      sum_one_more n (λ u. cond (done_at mine u) 1 0) (λ u. cond (done_at (reached m k legs (set mine v (Settled k)) other best).0 u) 1 0) v (omega arith)
      (ap (λ b. cond b 1 0) (done v ∙ ap is_settled (get_or-set_same mine v (Settled k) Free within)) ∙ sym (ap (λ b. suc (cond b 1 0)) (ap is_settled waiting)))
      (λ u apart. ap (λ b. cond b 1 0) (done u ∙ ap is_settled (get_or-set_other mine v u (Settled k) Free apart)))

module _ {W : Type 0} (m : Meaning W) (laws : TravelLaws m) (n : ℕ) (R : Net W) (g : Grid W) (seed seed_back : ℕ → Option W) (Kind : W → Type 0) (meets_in : MeetsIn m R seed seed_back Kind)
    (own : (v : ℕ) (k : W) → FromSeed m R seed v k → LegsOf n R v (legs_of g v))
    (own_back : (v : ℕ) (k : W) → FromSeed (turned m) (back R) seed_back v k → LegsOf n (back R) v (legs_of g v)) where
  -- the count is that of the settled stations of both sides
  pub record Counted (s : Search W) : Type 0 where
    pub way : UnderWay m n R seed seed_back Kind s
    pub count : s.settled ≡ settled_on n s.forward + settled_on n s.reverse

  counted_forward : (s : Search W) → Counted s → (p : ℕ × W) → First m.leb 0 s.forward p.0 p.1 → Counted (forward_step m g p s)
  counted_forward s c p f =
      let u = c.way in
      let more = more_settled m laws n s.forward s.reverse s.best p.0 p.1 (legs_of g p.0) R u.forward_ok.long f (own p.0 p.1 (u.forward_ok.real p.0 p.1 (first_key m laws n R g seed seed_back Kind meets_in own own_back s.forward p.0 p.1 f))) in
      record { way = forward_way m laws n R g seed seed_back Kind meets_in own own_back s u p f; count = let old = c.count in omega (arith, more) }

  counted_back : (s : Search W) → Counted s → (q : ℕ × W) → First m.leb 0 s.reverse q.0 q.1 → Counted (reverse_step m g q s)
  counted_back s c q f =
      let u = c.way in
      let more = more_settled (turned m) (turned_laws m laws) n s.reverse s.forward s.best q.0 q.1 (legs_of g q.0) (back R) u.reverse_ok.long f (own_back q.0 q.1 (u.reverse_ok.real q.0 q.1 (first_key m laws n R g seed seed_back Kind meets_in own own_back s.reverse q.0 q.1 f))) in
      record { way = reverse_way m laws n R g seed seed_back Kind meets_in own own_back s u q f; count = let old = c.count in omega (arith, more) }

  counted_run : (turns : ℕ) (s : Search W) → Counted s → Counted (two_sided m g turns s)
  unfolding two_sided
  counted_run zero s c = c
  counted_run (suc turns) s c =
      by_forward (least_from m.leb 0 s.forward) (found m.leb (ranks m laws) 0 s.forward) (λ s' c'. counted_run turns s' c')
    where
      by_side : (p q : ℕ × W) → First m.leb 0 s.forward p.0 p.1 → First m.leb 0 s.reverse q.0 q.1 → ((s' : Search W) → Counted s' → Counted (two_sided m g turns s')) → (b : Bool) → Counted (two_sided m g turns (choose b (λ _. forward_step m g p s) (λ _. reverse_step m g q s)))
      by_side p q f h on true = on _ (counted_forward s c p f)
      by_side p q f h on false = on _ (counted_back s c q h)

      by_stop : (p q : ℕ × W) → First m.leb 0 s.forward p.0 p.1 → First m.leb 0 s.reverse q.0 q.1 → ((s' : Search W) → Counted s' → Counted (two_sided m g turns s')) → (b : Bool) → Counted (choose b (λ _. two_sided m g turns (next_step m g p q s)) (λ _. s))
      by_stop p q f h on true = by_side p q f h on (m.leb p.1 q.1)
      by_stop p q f h on false = c

      by_reverse : (p : ℕ × W) → First m.leb 0 s.forward p.0 p.1 → (r : Option (ℕ × W)) → Found m.leb 0 s.reverse r → ((s' : Search W) → Counted s' → Counted (two_sided m g turns s')) → Counted (by_some r s (λ q. choose (better m (m.join p.1 q.1) s.best) (λ _. two_sided m g turns (next_step m g p q s)) (λ _. s)))
      by_reverse p f None h on = c
      by_reverse p f (Some q) h on = by_stop p q f h on (better m (m.join p.1 q.1) s.best)

      by_forward : (r : Option (ℕ × W)) → Found m.leb 0 s.forward r → ((s' : Search W) → Counted s' → Counted (two_sided m g turns s')) → Counted (by_some r s (λ p. by_some (least_from m.leb 0 s.reverse) s (λ q. choose (better m (m.join p.1 q.1) s.best) (λ _. two_sided m g turns (next_step m g p q s)) (λ _. s))))
      by_forward None f on = c
      by_forward (Some p) f on = by_reverse p f (least_from m.leb 0 s.reverse) (found m.leb (ranks m laws) 0 s.reverse) on

-- where every settled station is of a kind, there are no more of them than stations of that kind
few_settled : {W : Type 0} (n : ℕ) (xs : List (Slot W)) (test : ℕ → Bool) → ((u : ℕ) → done_at xs u ≡ true → test u ≡ true) → settled_on n xs ≤ sum_below n (λ u. cond (test u) 1 0)
few_settled n xs test each = sum_most n _ _ (λ u h. at u (done_at xs u) refl)
  where
    at : (u : ℕ) (b : Bool) → done_at xs u ≡ b → cond b 1 0 ≤ cond (test u) 1 0
    at u true is = subst (λ t. 1 ≤ cond t 1 0) (sym (each u is)) (omega arith)
    at u false is = omega arith

key_of_done : {W : Type 0} (x : Slot W) → is_settled x ≡ true → (k : W) × (key_of x ≡ Some k)
key_of_done Free e = absurd (both_ways false refl e)
key_of_done (Waits w) e = absurd (both_ways false refl e)
key_of_done (Settled w) e = (w, refl)

none_settled : (n : ℕ) {W : Type 0} (xs : List (Slot W)) → ((u : ℕ) → done_at xs u ≡ false) → settled_on n xs ≡ 0
unfolding sum_below
none_settled n xs none = zeros n
  where
    zeros : (k : ℕ) → sum_below k (λ u. cond (done_at xs u) 1 0) ≡ 0
    zeros zero = refl
    zeros (suc k) = ap₂ ◌+◌ (zeros k) (ap (λ b. cond b 1 0) (none k))

pub settles_few : {W : Type 0} (m : Meaning W) → TravelLaws m → SettlesFew m
settles_few m laws n b G on s t hs ht =
    let way = under_way m laws n b G on s t hs ht in
    let idle_forward = none_settled n (seeds m n b.levels b.top (label_of b.labels s) (label_of b.labels t)).forward (undone_start m laws n b.levels b.top b.labels s (on.hubs_below s)) in
    let idle_back = none_settled n (seeds m n b.levels b.top (label_of b.labels s) (label_of b.labels t)).reverse (undone_start m laws n b.levels b.top b.labels t (on.hubs_below t)) in
    let end = counted_run m laws n (G b.top) b.rows (seed_of b s) (seed_of b t) (Reaches m (G 1) s t) (meet_in m laws n b G on s t hs ht)
    (λ v k f. on.legs v (forward_residual m laws n b G on s v k f)) (λ v k f. on.legs_back v (reverse_residual m laws n b G on t v k f)) (2 * n)
    (seeds m n b.levels b.top (label_of b.labels s) (label_of b.labels t))
    (record { way = way; count = sym (ap₂ ◌+◌ idle_forward idle_back) }) in
    let forward_few = few_settled n _ (λ u. eqb (lev_of b u) b.top) (λ u done. let (k, is) = key_of_done _ done in eq-eqb _ b.top (forward_residual m laws n b G on s u k (end.way.forward_ok.real u k is))) in
    let back_few = few_settled n _ (λ u. eqb (lev_of b u) b.top) (λ u done. let (k, is) = key_of_done _ done in eq-eqb _ b.top (reverse_residual m laws n b G on t u k (end.way.reverse_ok.real u k is))) in
    let whole = end.count in
    omega arith
