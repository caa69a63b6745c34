-- The plain query and the indexed query. Assumes nothing.
use Rattle.std.specs.Prelude.{ℕ, zero, suc, ◌*◌, Bool, false, cond, List, [], ◌∷◌, replicate, Some, None, Option, ◌==◌, slice_index_or, slice_set}
use Rattle.measure.specs.Meaning.{Meaning, better, better_of}
use Rattle.model.specs.Levels.{Grid, level_at, grid_of}
use Rattle.model.specs.Lists.{choose, by_some}
use Rattle.model.specs.Networks.{Net}
use Rattle.model.specs.Slots.{least, settling, is_settled, key_of}
use Rattle.model.specs.declared.slot.Slot.{Slot}
use Rattle.model.specs.declared.slot.Slot.TheVariants.{Free, Waits, Settled}
use Rattle.model.specs.Tables.{Built, legs_of, label_of}
use Rattle.model.specs.declared.records.Entry.{Entry}
use Rattle.model.specs.declared.records.Leg.{Leg}

-- What a query answers: the cost, and how many stations were settled.
pub record Answer (W : Type 0) : Type 0 where
  pub cost : W
  pub settled : ℕ

-- The same measure with joins taken from the other side, for a search that goes against the direction of travel.
abbrev pub turned : {W : Type 0} → Meaning W → Meaning W
turned m =
    record {
      leb = m.leb;
      join = λ a b. m.join b a;
      free = m.free;
      no_way = m.no_way;
      fit = m.fit;
      number = m.number;
      reading = m.reading;
      code = m.code;
    }

-- A weight may be a key: it is better than no way.
abbrev pub is_key : {W : Type 0} → Meaning W → W → Bool
is_key m k = better m k m.no_way

-- A key that is offered to a station improves it: it has none yet, or waits with a worse one.
abbrev pub improves : {W : Type 0} → Meaning W → W → Slot W → Bool
improves m k Free = is_key m k
improves m k (Waits w) = better m k w
improves m k (Settled w) = false

-- The slots after a key was offered to a station.
abbrev pub offered : {W : Type 0} → Meaning W → ℕ → W → List (Slot W) → List (Slot W)
offered m u k xs = cond (improves m k (slice_index_or xs u Free)) (slice_set xs u (Waits k)) xs

-- The slots after a settled station's key, joined to each of its legs, was offered to the other end.
abbrev pub relaxed : {W : Type 0} → Meaning W → W → List (Leg W) → List (Slot W) → List (Slot W)
relaxed m k [] xs = xs
relaxed m k (leg ∷ legs) xs = relaxed m k legs (offered m leg.to (m.join k leg.weight) xs)

-- What the plain query answers once it stops: the key that t was settled with, or no way.
abbrev pub arrived : {W : Type 0} → Meaning W → Slot W → W
arrived m Free = m.no_way
arrived m (Waits w) = m.no_way
arrived m (Settled w) = w

-- The plain search: while t is not settled and a station waits, the first is settled and its sections are relaxed.
unfoldable pub plain_search : {W : Type 0} → Meaning W → Grid W → ℕ → ℕ → List (Slot W) → ℕ → Answer W
plain_search m g t zero xs count = record { cost = arrived m (slice_index_or xs t Free); settled = count }
plain_search m g t (suc turns) xs count =
    choose (is_settled (slice_index_or xs t Free))
    (λ _. record { cost = arrived m (slice_index_or xs t Free); settled = count })
    (λ _. by_some (least m.leb xs) (record { cost = arrived m (slice_index_or xs t Free); settled = count })
    (λ p. plain_search m g t turns (relaxed m p.1 (legs_of g p.0) (settling p xs)) (suc count)))

-- The plain query from s to t over the sections of a network of n stations.
abbrev pub plain_query : {W : Type 0} → Meaning W → ℕ → Net W → ℕ → ℕ → Answer W
plain_query m n G s t = plain_search m (grid_of n G) t n (offered m s m.free (replicate n Free)) 0

-- The weight of a hub in a label.
abbrev pub entry_for : {W : Type 0} → ℕ → List (Entry W) → Option W
entry_for w [] = None
entry_for w (e ∷ es) = cond (e.hub == w) (Some e.weight) (entry_for w es)

-- The best joined pair at a hub of both labels; no way where they have none in common.
abbrev pub meeting : {W : Type 0} → Meaning W → List (Entry W) → List (Entry W) → W
meeting m [] ys = m.no_way
meeting m (x ∷ xs) ys = by_some (entry_for x.hub ys) (meeting m xs ys) (λ d. better_of m (m.join x.weight d) (meeting m xs ys))

-- The slots with the residual stations of a label waiting, their weights as keys.
abbrev pub seeded : {W : Type 0} → Meaning W → List ℕ → ℕ → List (Entry W) → List (Slot W) → List (Slot W)
seeded m levels top [] xs = xs
seeded m levels top (e ∷ es) xs =
    seeded m levels top es (cond (level_at levels e.hub == top) (offered m e.hub e.weight xs) xs)

-- A two-sided search: what each side knows of the stations, the best so far, and how many were settled.
pub record Search (W : Type 0) : Type 0 where
  pub forward : List (Slot W)
  pub reverse : List (Slot W)
  pub best : W
  pub settled : ℕ

-- The best so far after a station got a key on one side: where it has one on the other side too, the two joined may be better.
abbrev pub met : {W : Type 0} → Meaning W → W → Slot W → W → W
met m k other best = by_some (key_of other) best (λ r. better_of m best (m.join k r))

-- One side after a station was settled there: each leg is relaxed, and each better key may improve the best so far.
abbrev pub reached : {W : Type 0} → Meaning W → W → List (Leg W) → List (Slot W) → List (Slot W) → W → List (Slot W) × W
reached m k [] mine other best = (mine, best)
reached m k (leg ∷ legs) mine other best =
    let offer = m.join k leg.weight in
    cond (improves m offer (slice_index_or mine leg.to Free))
    (reached m k legs (slice_set mine leg.to (Waits offer)) other (met m offer (slice_index_or other leg.to Free) best))
    (reached m k legs mine other best)

-- The search after a station was settled on the forward side.
abbrev pub forward_step : {W : Type 0} → Meaning W → Grid W → ℕ × W → Search W → Search W
forward_step m g p s =
    let r = reached m p.1 (legs_of g p.0) (settling p s.forward) s.reverse s.best in
    record { forward = r.0; reverse = s.reverse; best = r.1; settled = suc s.settled }

-- The search after a station was settled on the reverse side: the forward step turned round.
abbrev pub reverse_step : {W : Type 0} → Meaning W → Grid W → ℕ × W → Search W → Search W
reverse_step m g p s =
    let r = reached (turned m) p.1 (legs_of g p.0) (settling p s.reverse) s.forward s.best in
    record { forward = s.forward; reverse = r.0; best = r.1; settled = suc s.settled }

-- The side that goes next: the one whose first station has the better key, forward at a tie.
abbrev pub next_step : {W : Type 0} → Meaning W → Grid W → ℕ × W → ℕ × W → Search W → Search W
next_step m g p q s = choose (m.leb p.1 q.1) (λ _. forward_step m g p s) (λ _. reverse_step m g q s)

-- The two-sided search: while a station waits on each side and the two best keys joined are better than the best so far, one is settled.
unfoldable pub two_sided : {W : Type 0} → Meaning W → Grid W → ℕ → Search W → Search W
two_sided m g zero s = s
two_sided m g (suc turns) s =
    by_some (least m.leb s.forward) s
    (λ p. by_some (least m.leb s.reverse) s
    (λ q. choose (better m (m.join p.1 q.1) s.best) (λ _. two_sided m g turns (next_step m g p q s)) (λ _. s)))

-- The search as it starts from two labels.
abbrev pub seeds : {W : Type 0} → Meaning W → ℕ → List ℕ → ℕ → List (Entry W) → List (Entry W) → Search W
seeds m n levels top out into =
    record {
      forward = seeded m levels top out (replicate n Free);
      reverse = seeded m levels top into (replicate n Free);
      best = meeting m out into;
      settled = 0;
    }

-- The indexed query from s to t over what was built: a station is settled at most once on each side.
abbrev pub indexed_query : {W : Type 0} → Meaning W → ℕ → Built W → ℕ → ℕ → Answer W
indexed_query m n b s t =
    let found = two_sided m b.rows (2 * n) (seeds m n b.levels b.top (label_of b.labels s) (label_of b.labels t)) in
    record { cost = found.best; settled = found.settled }
