-- Numbers as bytes, the lowest first: each of `le` and `number` takes back the other.
use Rattle.std.proofs.Common.{◌≡◌, ℕ, zero, suc, ◌+◌, ◌-◌, ◌*◌, ◌/◌, ◌%◌, ◌^◌, ◌<◌, ◌≤◌, List, [], ◌∷◌, ◌++◌, length, get_or, take, drop, replicate, w16, w64, sym, refl, ap, ◌∙◌, subst, ap₂, arith, lit<, length-append, length-drop, take-append-drop}
use native.Mathlib.Nat.{pow-succ', div-div-eq-div-mul}
use Rattle.std.specs.Int.{from_le_bytes}
use Rattle.std.proofs.lemmas.Nat.{le_bytes_8}
use Rattle.std.proofs.lemmas.List.{length-replicate, take_at, drop_at, drop-drop, length-take-le, drop-append-le, take-append-le}
use Rattle.std.proofs.ByRecursion.{All-from_get_or, All-take, All-drop}
use Rattle.lists.specs.Bytes.{le, number, value, Bytes}

pub length_le : (k n : ℕ) → length (le k n) ≡ k
length_le zero n = refl
length_le (suc k) n = ap suc (length_le k (n / 256))

pub number_lt : (bs : List ℕ) → Bytes bs → number bs < 256 ^ length bs
number_lt [] h = lit< tt
number_lt (b ∷ bs) h =
    let r : number bs < 256 ^ length bs = number_lt bs h.1 in
    let b₀ : b < 256 = h.0 in
    rw pow-succ' (omega arith)

-- what was put into k bytes is read from them
pub number_le : (k n : ℕ) → n < 256 ^ k → number (le k n) ≡ n
number_le zero n h = omega (arith, h)
number_le (suc k) n h =
    let q : n < 256 * 256 ^ k = rw pow-succ' at h in
    let r : number (le k (n / 256)) ≡ n / 256 = number_le k (n / 256) (omega arith) in
    omega (arith, r)

-- bytes are those of the number that they write
pub le_number : (bs : List ℕ) → Bytes bs → le (length bs) (number bs) ≡ bs
le_number [] h = refl
le_number (b ∷ bs) h =
    let b₀ : b < 256 = h.0 in
    let low : (b + 256 * number bs) % 256 ≡ b = omega arith in
    let high : (b + 256 * number bs) / 256 ≡ number bs = omega arith in
    ap₂ (λ x xs. x ∷ xs) low (ap (le (length bs)) high ∙ le_number bs h.1)

pub value_lt : (k : ℕ) (b : List ℕ) (a : ℕ) → Bytes b → a + k ≤ length b → value k b a < 256 ^ k
value_lt k b a h l =
    let long : length (take k (drop a b)) ≡ k = length-take-le k (drop a b) (rw length-drop (omega arith)) in
    subst (λ (n : ℕ). value k b a < 256 ^ n) long (number_lt (take k (drop a b)) (All-take _ k (drop a b) (All-drop _ a b h)))

-- a field of k bytes stands in front of what follows it
pub field_cut : (k : ℕ) (b : List ℕ) (a : ℕ) → Bytes b → a + k ≤ length b → drop a b ≡ le k (value k b a) ++ drop (a + k) b
field_cut k b a h l =
    let long : length (take k (drop a b)) ≡ k = length-take-le k (drop a b) (rw length-drop (omega arith)) in
    let same : le k (value k b a) ≡ take k (drop a b) =
    subst (λ (n : ℕ). le n (value k b a) ≡ take k (drop a b)) long
    (le_number (take k (drop a b)) (All-take _ k (drop a b) (All-drop _ a b h)))
    in
    sym (take-append-drop k (drop a b)) ∙ ap₂ (λ x y. x ++ y) (sym same) (drop-drop k a b)

-- a field that was put behind p is read at p's end
pub value_at : (k v a : ℕ) (p q : List ℕ) → v < 256 ^ k → length p ≡ a → value k (p ++ (le k v ++ q)) a ≡ v
value_at k v a p q h l =
    ap (λ x. number (take k x)) (drop_at p (le k v ++ q) a l)
    ∙ ap number (take_at (le k v) q k (length_le k v)) ∙ number_le k v h

pub bytes_from_get_or : (bs : List ℕ) → ((i : ℕ) → get_or bs i 0 < 256) → Bytes bs
bytes_from_get_or bs h = All-from_get_or (λ b. b < 256) bs 0 (λ i _. h i)

get_or_bytes : (bs : List ℕ) → Bytes bs → (i : ℕ) → get_or bs i 0 < 256
get_or_bytes [] h i = lit< tt
get_or_bytes (b ∷ bs) h zero = h.0
get_or_bytes (b ∷ bs) h (suc i) = get_or_bytes bs h.1 i

-- what stands behind b does not change a field within b
pub value_front : (k : ℕ) (b t : List ℕ) (a : ℕ) → a + k ≤ length b → value k (b ++ t) a ≡ value k b a
value_front k b t a l =
    ap (λ x. number (take k x)) (drop-append-le a b t (omega arith))
    ∙ ap number (take-append-le k (drop a b) t (rw length-drop (omega arith)))

-- the bytes of a number as `to_le_bytes` gives them
pub le_four : (n : ℕ) → (n % 256) ∷ (n / 256 % 256) ∷ (n / 65536 % 256) ∷ (n / 16777216 % 256) ∷ [] ≡ le 4 n
le_four n = simp div-div-eq-div-mul

pub le_eight : (n : ℕ) → (n % 256) ∷ (n / 256 % 256) ∷ (n / 65536 % 256) ∷ (n / 16777216 % 256) ∷ (n / 4294967296 % 256) ∷ (n / 1099511627776 % 256) ∷ (n / 281474976710656 % 256) ∷ (n / 72057594037927936 % 256) ∷ [] ≡ le 8 n
le_eight n = simp div-div-eq-div-mul

pub number_two : (bs : List ℕ) → length bs ≡ 2 → from_le_bytes w16 bs ≡ number bs
number_two [] l = absurd (omega arith)
number_two (a ∷ []) l = absurd (omega arith)
number_two (a ∷ b ∷ []) l = omega arith
number_two (a ∷ b ∷ x ∷ xs) l = absurd (omega arith)

-- zeros behind bytes add nothing to their number
number_filled : (p : List ℕ) (k : ℕ) → number (p ++ replicate k 0) ≡ number p
number_filled [] zero = refl
number_filled [] (suc k) = omega (arith, number_filled [] k)
number_filled (b ∷ p) k = ap (λ n. b + 256 * n) (number_filled p k)

bytes_filled : (p : List ℕ) (k : ℕ) → Bytes p → Bytes (p ++ replicate k 0)
bytes_filled [] zero h = tt
bytes_filled [] (suc k) h = (lit< tt, bytes_filled [] k tt)
bytes_filled (b ∷ p) k h = (h.0, bytes_filled p k h.1)

-- what `from_le_bytes` reads from at most eight bytes with zeros behind them is their number
pub number_padded : (p : List ℕ) (n : ℕ) → length p ≤ 8 → Bytes p → n < 2 ^ 64 → n ≡ from_le_bytes w64 (p ++ replicate (8 - length p) 0) → n ≡ number p
number_padded p n l h g e =
    let padded = p ++ replicate (8 - length p) 0 in
    let long : length padded ≡ 8 = simp (length-append, length-replicate) (omega arith) in
    sym (number_le 8 n g)
    ∙ ap number (sym (le_eight n) ∙ le_bytes_8 padded n long (get_or_bytes padded (bytes_filled p (8 - length p) h)) e)
    ∙ number_filled p (8 - length p)

-- a field behind p is a field of what stands behind it
pub value_past : (k n a : ℕ) (p q : List ℕ) → length p ≡ n → value k (p ++ q) (n + a) ≡ value k q a
value_past k n a p q l = ap (λ x. number (take k x)) (sym (drop-drop a n (p ++ q)) ∙ ap (drop a) (drop_at p q n l))
