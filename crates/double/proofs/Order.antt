-- The order of doubles where no NaN is, and sums and products of numbers not below zero (`nonneg`). Assumes nothing.
use mathlib.Core.Path.{◌≡◌, refl, sym, ap, ◌∙◌, subst}
use mathlib.Core.Bool.{Bool, true, false, not, cond, ◌||◌, ◌&&◌, and-false, or-true, true≢false, false≢true}
use mathlib.Core.Logic.{⊎_elim}
use Prim.Native.Nat.{ℕ, zero, suc, ◌+◌, ◌-◌, ◌*◌, ◌<◌, ◌≤◌}
use native.Mathlib.Omega.{arith}
use native.Mathlib.Nat.{le_refl, le_trans, le_of_eq, le_of_suc-le-suc, eq-or-lt_of_le, zero-lt-suc, le-add_right, add_comm, mul_assoc, mul_comm, mul_right_comm, mul-le-mul_right, mul-pos, zero-mul}
use native.Mathlib.Nat.{mul-zero}
use borrow.Author.Tests.{ltb-true, le-ltb, le-leb, eq-eqb, ne_eqb, ltb-false, leb-true, leb-false, eqb-true}
use lib.Dec.{T, leb, ltb, eqb}
use lib.Pow.{pow_pos}
use lib.IntN.{ℤ, pos}
use lib.Ieee.{Float, nan, inf, fin, Format, binary32, binary64, up, down, unlike, lt, eq, le, add, mul, sum, round, of_bits, is_nan, fits, below, level}
use lib.Ieee.Bits.{is_true}
use lib.Ieee.Fits.{up_pos, down_pos, add-fits}
use lib.Ieee.Exact.{HasValue, round_exact}
use lib.Ieee.Order.{round_mono}
use lib.Ieee.Positive.{through}
use lib.Ieee.Scale.{finite}
use Rattle.double.specs.Sums.{total, unsigned, nonneg}
use Rattle.double.proofs.Finite.{finite-no-nan, unsigned-round, total-keeps}
use Rattle.double.proofs.Grid.{round-own}

-- ---- any numbers
-- of two numbers, a < b, a = b or b < a
order : (s : Bool) (a : ℕ) (t : Bool) (b : ℕ) → below t b s a ≡ false → (below s a t b || level s a t b) ≡ true
order false a false b h = go (ltb a b) refl
  where
    go : (q : Bool) → ltb a b ≡ q → (ltb a b || level false a false b) ≡ true
    go true e = rw e
    go false e = rw (e, eq-eqb a b (let x : a ≤ b = ltb-false b a h in let y : b ≤ a = ltb-false a b e in omega arith))
order false a true b h =
    let x : b + a ≤ 0 = ltb-false 0 (b + a) h in
    let p : a ≡ b = omega arith in
    let q : a ≡ 0 = omega arith in
    rw (eq-eqb a b p, eq-eqb a 0 q)
order true a false b h = go (ltb 0 (a + b)) refl
  where
    go : (q : Bool) → ltb 0 (a + b) ≡ q → (ltb 0 (a + b) || level true a false b) ≡ true
    go true e = rw e
    go false e =
        let y : a + b ≤ 0 = ltb-false 0 (a + b) e in
        let p : a ≡ b = omega arith in
        let q : a ≡ 0 = omega arith in
        rw (e, eq-eqb a b p, eq-eqb a 0 q)
order true a true b h = go (ltb b a) refl
  where
    go : (q : Bool) → ltb b a ≡ q → (ltb b a || level true a true b) ≡ true
    go true e = rw e
    go false e = rw (e, eq-eqb a b (let x : b ≤ a = ltb-false a b h in let y : a ≤ b = ltb-false b a e in omega arith))

-- what is below something is no NaN, nor is what is above something
pub lt-no-nan : (x y : Float) → lt x y ≡ true → T (not (is_nan x)) × T (not (is_nan y))
unfolding lt is_nan
lt-no-nan nan y h = absurd (false≢true h)
lt-no-nan (inf s) nan h = absurd (false≢true h)
lt-no-nan (inf s) (inf t) h = (tt, tt)
lt-no-nan (inf s) (fin t n d) h = (tt, tt)
lt-no-nan (fin s m e) nan h = absurd (false≢true h)
lt-no-nan (fin s m e) (inf t) h = (tt, tt)
lt-no-nan (fin s m e) (fin t n d) h = (tt, tt)

-- where neither is a NaN, b < a fails only if a ≤ b
pub le_of_not_lt : (a b : Float) → is_nan a ≡ false → is_nan b ≡ false → lt b a ≡ false → le a b ≡ true
unfolding le lt eq is_nan
le_of_not_lt nan b p q h = absurd (true≢false p)
le_of_not_lt (inf s) nan p q h = absurd (true≢false q)
le_of_not_lt (fin s m e) nan p q h = absurd (true≢false q)
le_of_not_lt (inf true) (inf true) p q h = refl
le_of_not_lt (inf true) (inf false) p q h = refl
le_of_not_lt (inf false) (inf true) p q h = absurd (true≢false h)
le_of_not_lt (inf false) (inf false) p q h = refl
le_of_not_lt (inf true) (fin t n d) p q h = refl
le_of_not_lt (inf false) (fin t n d) p q h = absurd (true≢false h)
le_of_not_lt (fin s m e) (inf true) p q h = absurd (true≢false h)
le_of_not_lt (fin s m e) (inf false) p q h = refl
le_of_not_lt (fin s m e) (fin t n d) p q h = order s (m * up e * down d) t (n * up d * down e) h

-- and a ≤ b only then
disorder : (s : Bool) (a : ℕ) (t : Bool) (b : ℕ) → below t b s a ≡ true → (below s a t b || level s a t b) ≡ false
disorder false a false b h = let l : b < a = ltb-true b a h in rw (le-ltb a b (omega arith), ne_eqb a b (λ e. omega arith))
disorder false a true b h = go (eqb a 0) refl
  where
    go : (q : Bool) → eqb a 0 ≡ q → (eqb a b && q) ≡ false
    go true e = let l : 0 < b + a = ltb-true 0 (b + a) h in let z : a ≡ 0 = eqb-true a 0 e in rw (ne_eqb a b (λ e. omega arith))
    go false e = and-false (eqb a b)
disorder true a false b h = absurd (false≢true h)
disorder true a true b h = let l : a < b = ltb-true a b h in rw (le-ltb b a (omega arith), ne_eqb a b (λ e. omega arith))

pub not-le : (a b : Float) → lt b a ≡ true → le a b ≡ false
unfolding le lt eq
not-le nan b h = refl
not-le (inf s) nan h = absurd (false≢true h)
not-le (fin s m e) nan h = absurd (false≢true h)
not-le (inf true) (inf true) h = absurd (false≢true h)
not-le (inf true) (inf false) h = absurd (false≢true h)
not-le (inf false) (inf true) h = refl
not-le (inf false) (inf false) h = absurd (false≢true h)
not-le (inf true) (fin t n d) h = absurd (false≢true h)
not-le (inf false) (fin t n d) h = refl
not-le (fin s m e) (inf true) h = refl
not-le (fin s m e) (inf false) h = absurd (false≢true h)
not-le (fin s m e) (fin t n d) h = disorder s (m * up e * down d) t (n * up d * down e) h

-- what is at most y is not above it
pub le-not-gt : (x y : Float) → le x y ≡ true → lt y x ≡ false
le-not-gt x y h = go (lt y x) refl
  where
    go : (r : Bool) → lt y x ≡ r → r ≡ false
    go true e = sym h ∙ not-le x y e
    go false e = refl

pub le_not_lt : (a b : Float) → is_nan a ≡ false → is_nan b ≡ false → le a b ≡ not (lt b a)
le_not_lt a b p q = go (lt b a) refl
  where
    go : (r : Bool) → lt b a ≡ r → le a b ≡ not r
    go true e = not-le a b e
    go false e = le_of_not_lt a b p q e

-- ---- addition commutes
-- a difference, taken either way
opposite : (f : Format) (a b c : ℕ) → sum f true a false b c ≡ sum f false b true a c
unfolding sum
opposite f a b c = go (ltb b a) refl (ltb a b) refl
  where
    go : (q : Bool) → ltb b a ≡ q → (p : Bool) → ltb a b ≡ p → cond p (round f false (b - a) c) (round f q (a - b) c) ≡ cond q (round f true (a - b) c) (round f false (b - a) c)
    go true h true k = absurd (omega (arith, ltb-true b a h, ltb-true a b k))
    go true h false k = refl
    go false h true k = refl
    go false h false k = ap (λ (z : ℕ). round f false z c) (omega (arith, ltb-false b a h, ltb-false a b k))

sum_comm : (f : Format) (s : Bool) (a : ℕ) (t : Bool) (b c : ℕ) → sum f s a t b c ≡ sum f t b s a c
unfolding sum
sum_comm f true a true b c = rw (add_comm a b)
sum_comm f false a false b c = rw (add_comm a b)
sum_comm f true a false b c = opposite f a b c
sum_comm f false a true b c = sym (opposite f b a c)

pub add_commutes : (f : Format) (x y : Float) → add f x y ≡ add f y x
unfolding add
add_commutes f nan nan = refl
add_commutes f nan (inf t) = refl
add_commutes f nan (fin t n d) = refl
add_commutes f (inf s) nan = refl
add_commutes f (inf true) (inf true) = refl
add_commutes f (inf true) (inf false) = refl
add_commutes f (inf false) (inf true) = refl
add_commutes f (inf false) (inf false) = refl
add_commutes f (inf s) (fin t n d) = refl
add_commutes f (fin s m e) nan = refl
add_commutes f (fin s m e) (inf t) = refl
add_commutes f (fin s m e) (fin t n d) = rw (mul_comm (down e) (down d)) (sum_comm f s (m * up e * down d) t (n * up d * down e) (down d * down e))

-- ---- numbers not below zero: the sign is negative only at zero
-- a size a with the sign s is such a number
abbrev pub Sized : Bool → ℕ → Type 0
Sized s a = s ≡ true → a ≡ 0

sized : (s : Bool) (m : ℕ) → (not s || eqb m 0) ≡ true → Sized s m
sized false m h e = absurd (false≢true e)
sized true m h e = eqb-true m 0 h

times : {s : Bool} {a : ℕ} (u : ℕ) → Sized s a → Sized s (a * u)
times u p e = rw (p e) (zero-mul u)

pub scaled : (s : Bool) (m u v : ℕ) → (not s || eqb m 0) ≡ true → Sized s (m * u * v)
scaled s m u v p = times v (times u (sized s m p))

pub nonneg-of-unsigned : (x : Float) → unsigned x ≡ true → nonneg x ≡ true
nonneg-of-unsigned nan h = h
nonneg-of-unsigned (inf s) h = h
nonneg-of-unsigned (fin s m e) h = rw h

pub zero_is : (f : Format) → of_bits f 0 ≡ fin false 0 (pos 0)
unfolding of_bits
zero_is binary32 = refl
zero_is binary64 = refl

pub nonneg-of-not-lt : (f : Format) (x : Float) → is_nan x ≡ false → lt x (of_bits f 0) ≡ false → nonneg x ≡ true
unfolding lt is_nan
nonneg-of-not-lt f x p h = go x p (rw zero_is at h)
  where
    go : (x : Float) → is_nan x ≡ false → lt x (fin false 0 (pos 0)) ≡ false → nonneg x ≡ true
    go nan p h = absurd (true≢false p)
    go (inf true) p h = absurd (true≢false h)
    go (inf false) p h = refl
    go (fin false m e) p h = refl
    go (fin true zero e) p h = refl
    go (fin true (suc m) e) p h = absurd (omega (arith, ltb-false 0 (suc m * up e * 1 + 0 * down e) h, mul-pos (zero-lt-suc m) (up_pos e)))

-- document 01's weights: finite, not below zero
pub nonneg-of-finite : (f : Format) (x : Float) → finite x ≡ true → lt x (of_bits f 0) ≡ false → nonneg x ≡ true
nonneg-of-finite f x p h = nonneg-of-not-lt f x (finite-no-nan x p) h

-- ---- their order is that of their sizes
not-below : (s : Bool) (a : ℕ) (t : Bool) (b : ℕ) → Sized s a → Sized t b → a ≤ b → below t b s a ≡ false
not-below false a false b p q h = le-ltb b a h
not-below true a false b p q h = refl
not-below false a true b p q h = let z = q refl in le-ltb 0 (b + a) (omega arith)
not-below true a true b p q h = let y = p refl in let z = q refl in le-ltb a b (omega arith)

by_size : (s : Bool) (a : ℕ) (t : Bool) (b : ℕ) → Sized s a → Sized t b → (below s a t b || level s a t b) ≡ leb a b
by_size s a t b p q = go (leb a b) refl
  where
    apart : (s t : Bool) → Sized s a → b < a → (below s a t b || level s a t b) ≡ false
    apart true t p l = absurd (let z = p refl in omega arith)
    apart false true p l = rw (ne_eqb a b (λ e. omega arith))
    apart false false p l = rw (le-ltb a b (omega arith), ne_eqb a b (λ e. omega arith))

    go : (v : Bool) → leb a b ≡ v → (below s a t b || level s a t b) ≡ leb a b
    go true e = rw e (order s a t b (not-below s a t b p q (leb-true a b e)))
    go false e = rw e (apart s t p (leb-false a b e))

-- +∞, or a number of size m * 2 ^ e
pub data View : Float → Type 0 where
  infinite : View (inf false)
  number : (s : Bool) (m : ℕ) (e : ℤ) → (not s || eqb m 0) ≡ true → View (fin s m e)

pub view : (x : Float) → nonneg x ≡ true → View x
view nan h = absurd (false≢true h)
view (inf true) h = absurd (false≢true h)
view (inf false) h = infinite
view (fin s m e) h = number s m e h

-- x ≤ y by their sizes, for an x that is no NaN
abbrev within : Float → Float → Bool
within x nan = false
within x (inf t) = true
within nan (fin t n d) = false
within (inf s) (fin t n d) = false
within (fin s m e) (fin t n d) = leb (m * up e * down d) (n * up d * down e)

le-view : {x y : Float} → View x → View y → le x y ≡ within x y
unfolding le lt eq
le-view infinite infinite = refl
le-view infinite (number t n d q) = refl
le-view (number s m e p) infinite = refl
le-view (number s m e p) (number t n d q) = by_size s (m * up e * down d) t (n * up d * down e) (scaled s m (up e) (down d) p) (scaled t n (up d) (down e) q)

le_is : (x y : Float) → nonneg x ≡ true → nonneg y ≡ true → le x y ≡ within x y
le_is x y p q = le-view (view x p) (view y q)

pub le-sizes : (s : Bool) (m : ℕ) (e : ℤ) (t : Bool) (n : ℕ) (d : ℤ) → (not s || eqb m 0) ≡ true → (not t || eqb n 0) ≡ true → le (fin s m e) (fin t n d) ≡ true →
    m * up e * down d ≤ n * up d * down e
le-sizes s m e t n d p q h = leb-true _ _ (sym (le_is (fin s m e) (fin t n d) p q) ∙ h)

within-trans : (x y z : Float) → within x y ≡ true → within y z ≡ true → within x z ≡ true
within-trans x y nan h k = k
within-trans x y (inf t) h k = refl
within-trans x nan (fin t n d) h k = absurd (false≢true k)
within-trans x (inf s) (fin t n d) h k = absurd (false≢true k)
within-trans nan (fin s m e) (fin t n d) h k = h
within-trans (inf r) (fin s m e) (fin t n d) h k = h
within-trans (fin r l c) (fin s m e) (fin t n d) h k =
    le-leb (l * up c * down d) (n * up d * down c) (through (l * up c) (m * up e) (n * up d) (down c) (down e) (down d) (down_pos e) (leb-true _ _ h) (leb-true _ _ k))

pub le-trans-nonneg : (x y z : Float) → nonneg x ≡ true → nonneg y ≡ true → nonneg z ≡ true → le x y ≡ true → le y z ≡ true → le x z ≡ true
le-trans-nonneg x y z p q r h k = le_is x z p r ∙ within-trans x y z (sym (le_is x y p q) ∙ h) (sym (le_is y z q r) ∙ k)

pub le-refl-nonneg : (x : Float) → nonneg x ≡ true → le x x ≡ true
le-refl-nonneg x p = le_is x x p p ∙ go x p
  where
    go : (x : Float) → nonneg x ≡ true → within x x ≡ true
    go nan h = h
    go (inf s) h = refl
    go (fin s m e) h = le-leb (m * up e * down e) (m * up e * down e) (le_refl _)

-- ---- a rounded number, a sum and a product
value-zero : (x : Float) (s : Bool) (c : ℕ) → 0 < c → HasValue x s 0 c → nonneg x ≡ true
value-zero nan s c C v = absurd v
value-zero (inf t) s c C v = absurd v
value-zero (fin t zero e) s c C v = or-true (not t)
value-zero (fin t (suc m) e) s c C v = absurd (omega (arith, mul-pos (mul-pos (zero-lt-suc m) (up_pos e)) C, v.1, zero-mul (down e)))

pub nonneg-round : (f : Format) (s : Bool) (a c : ℕ) → 0 < c → Sized s a → nonneg (round f s a c) ≡ true
nonneg-round f false a c C p = nonneg-of-unsigned (round f false a c) (unsigned-round f a c)
nonneg-round f true a c C p = rw (p refl) (value-zero (round f true 0 c) true c C (round_exact f true 0 c 0 0 C (pow_pos _) (pow_pos _) (simp zero-mul)))

-- less nothing
taken : (f : Format) (a b c : ℕ) → b ≡ 0 → sum f false a true b c ≡ round f false (a + b) c
unfolding sum
taken f a b c z = go (ltb a b) refl
  where
    go : (q : Bool) → ltb a b ≡ q → cond q (round f true (b - a) c) (round f false (a - b) c) ≡ round f false (a + b) c
    go true h = absurd (omega (arith, ltb-true a b h))
    go false h = ap (λ (w : ℕ). round f false w c) (omega arith)

-- their sum is one rounding of the sum of the sizes
sum_is : (f : Format) (s : Bool) (a : ℕ) (t : Bool) (b c : ℕ) → Sized s a → Sized t b → sum f s a t b c ≡ round f (s && t) (a + b) c
unfolding sum
sum_is f false a false b c p q = refl
sum_is f true a true b c p q = refl
sum_is f false a true b c p q = taken f a b c (q refl)
sum_is f true a false b c p q = opposite f a b c ∙ taken f b a c (p refl) ∙ ap (λ (w : ℕ). round f false w c) (add_comm b a)

sized-sum : (s t : Bool) (a b : ℕ) → Sized s a → Sized t b → Sized (s && t) (a + b)
sized-sum false t a b p q e = absurd (false≢true e)
sized-sum true t a b p q e = omega (arith, p refl, q e)

sized-product : (s t : Bool) (a b : ℕ) → Sized s a → Sized t b → Sized (unlike s t) (a * b)
sized-product true true a b p q e = absurd (false≢true e)
sized-product false false a b p q e = absurd (false≢true e)
sized-product true false a b p q e = rw (p refl) (zero-mul b)
sized-product false true a b p q e = rw (q refl) (mul-zero a)

-- the sum of two that are finite
finite-sum : (f : Format) (s : Bool) (m : ℕ) (e : ℤ) (t : Bool) (n : ℕ) (d : ℤ) → (not s || eqb m 0) ≡ true → (not t || eqb n 0) ≡ true
    → add f (fin s m e) (fin t n d) ≡ round f (s && t) (m * up e * down d + n * up d * down e) (down e * down d)
unfolding add
finite-sum f s m e t n d p q = sum_is f s (m * up e * down d) t (n * up d * down e) (down e * down d) (scaled s m (up e) (down d) p) (scaled t n (up d) (down e) q)

pub add-view : (f : Format) {x y : Float} → View x → View y → nonneg (add f x y) ≡ true
unfolding add
add-view f infinite infinite = refl
add-view f infinite (number t n d q) = refl
add-view f (number s m e p) infinite = refl
add-view f (number s m e p) (number t n d q) =
    ap nonneg (finite-sum f s m e t n d p q)
    ∙ nonneg-round f (s && t) (m * up e * down d + n * up d * down e) (down e * down d) (mul-pos (down_pos e) (down_pos d))
    (sized-sum s t (m * up e * down d) (n * up d * down e) (scaled s m (up e) (down d) p) (scaled t n (up d) (down e) q))

pub nonneg-add : (f : Format) (x y : Float) → nonneg x ≡ true → nonneg y ≡ true → nonneg (add f x y) ≡ true
nonneg-add f x y p q = add-view f (view x p) (view y q)

-- a number times +∞: a NaN at zero
past-nan : (b t : Bool) → (not t || b) ≡ true → is_nan (cond b nan (inf t)) ≡ false → nonneg (cond b nan (inf t)) ≡ true
unfolding is_nan
past-nan true t q h = absurd (true≢false h)
past-nan false true q h = absurd (false≢true q)
past-nan false false q h = refl

pub mul-view : (f : Format) {x y : Float} → View x → View y → is_nan (mul f x y) ≡ false → nonneg (mul f x y) ≡ true
unfolding mul
mul-view f infinite infinite h = refl
mul-view f infinite (number true n d q) h = past-nan (eqb n 0) true q h
mul-view f infinite (number false n d q) h = past-nan (eqb n 0) false q h
mul-view f (number true m e p) infinite h = past-nan (eqb m 0) true p h
mul-view f (number false m e p) infinite h = past-nan (eqb m 0) false p h
mul-view f (number s m e p) (number t n d q) h =
    nonneg-round f (unlike s t) (m * up e * (n * up d)) (down e * down d) (mul-pos (down_pos e) (down_pos d))
    (sized-product s t (m * up e) (n * up d) (times (up e) (sized s m p)) (times (up d) (sized t n q)))

pub nonneg-total : (f : Format) (g : ℕ → Float) (z : Float) (n : ℕ) → nonneg z ≡ true → ((k : ℕ) → k < n → nonneg (g k) ≡ true) → nonneg (total f g z n) ≡ true
nonneg-total f g z n p q = total-keeps nonneg f g z n (nonneg-add f) p q

-- ---- a rounded sum of two of them is not below either
zero-least : (s : Bool) (e : ℤ) (y : Float) → nonneg y ≡ true → le (fin s 0 e) y ≡ true
zero-least s e y q = le_is (fin s 0 e) y (or-true (not s)) q ∙ go y q
  where
    go : (y : Float) → nonneg y ≡ true → within (fin s 0 e) y ≡ true
    go nan q = q
    go (inf t) q = refl
    go (fin t n d) q = le-leb (0 * up e * down d) (n * up d * down e) (omega (arith, ap (λ (z : ℕ). z * down d) (zero-mul (up e)), zero-mul (down d)))

more : (x y p q : ℕ) → x * (p * q) ≤ (x * q + y) * p
more x y p q = le_trans (le_of_eq (sym (mul_assoc x p q) ∙ mul_right_comm x p q)) (mul-le-mul_right p (le-add_right (x * q) y))

-- where x has the sign of +0 it is its own rounding, and rounding keeps the order
le-rounded : (f : Format) (m : ℕ) (e : ℤ) (b : ℕ) (d : ℤ) → T (fits f (fin false m e)) → le (fin false m e) (round f false (m * up e * down d + b) (down e * down d)) ≡ true
le-rounded f m e b d F =
    is_true _
    (subst (λ (x : Float). T (le x (round f false (m * up e * down d + b) (down e * down d)))) (round-own f (fin false m e) F tt)
    (round_mono f (m * up e) (down e) (m * up e * down d + b) (down e * down d) (down_pos e) (mul-pos (down_pos e) (down_pos d)) (more (m * up e) b (down e) (down d))))

le-finite-sum : (f : Format) (s : Bool) (m : ℕ) (e : ℤ) (t : Bool) (n : ℕ) (d : ℤ) → (not s || eqb m 0) ≡ true → (not t || eqb n 0) ≡ true → T (fits f (fin s m e)) →
    le (fin s m e) (add f (fin s m e) (fin t n d)) ≡ true
le-finite-sum f true zero e t n d p q F = zero-least true e (add f (fin true 0 e) (fin t n d)) (nonneg-add f (fin true 0 e) (fin t n d) p q)
le-finite-sum f true (suc m) e t n d p q F = absurd (omega (arith, eqb-true (suc m) 0 p))
le-finite-sum f false m e t n d p q F = ap (le (fin false m e)) (finite-sum f false m e t n d p q) ∙ le-rounded f m e (n * up d * down e) d F

le-sum : (f : Format) {x y : Float} → View x → View y → T (fits f x) → le x (add f x y) ≡ true
unfolding add le lt eq
le-sum f infinite infinite F = refl
le-sum f infinite (number t n d q) F = refl
le-sum f (number s m e p) infinite F = refl
le-sum f (number s m e p) (number t n d q) F = le-finite-sum f s m e t n d p q F

pub le-add-first : (f : Format) (x y : Float) → nonneg x ≡ true → nonneg y ≡ true → T (fits f x) → le x (add f x y) ≡ true
le-add-first f x y p q F = le-sum f (view x p) (view y q) F

pub le-add-second : (f : Format) (x y : Float) → nonneg x ≡ true → nonneg y ≡ true → T (fits f y) → le y (add f x y) ≡ true
le-add-second f x y p q F = ap (le y) (add_commutes f x y) ∙ le-add-first f y x q p F

-- ---- and a running sum is not below any term, nor below an earlier sum
module _ (f : Format) (g : ℕ → Float) (z : Float) where
  pub fits-total : (n : ℕ) → T (fits f z) → T (fits f (total f g z n))
  unfolding total
  fits-total zero F = F
  fits-total (suc n) F = add-fits f (total f g z n) (g n)

  pub le-total-total : (n : ℕ) → nonneg z ≡ true → T (fits f z) → ((k : ℕ) → k < n → nonneg (g k) ≡ true) → (k : ℕ) → k ≤ n → le (total f g z k) (total f g z n) ≡ true
  unfolding total
  le-total-total zero p F q k h = rw (let e : k ≡ 0 = omega arith in e) (le-refl-nonneg z p)
  le-total-total (suc n) p F q k h =
      let q' : (j : ℕ) → j < n → nonneg (g j) ≡ true = λ j l. q j (omega arith) in
      let s = nonneg-total f g z n p q' in
      ⊎_elim
      (λ (e : k ≡ suc n). rw e (le-refl-nonneg (total f g z (suc n)) (nonneg-total f g z (suc n) p q)))
      (λ (l : k < suc n).
      le-trans-nonneg (total f g z k) (total f g z n) (total f g z (suc n)) (nonneg-total f g z k p (λ j i. q j (omega arith))) s (nonneg-total f g z (suc n) p q)
      (le-total-total n p F q' k (le_of_suc-le-suc l))
      (le-add-first f (total f g z n) (g n) s (q n (omega arith)) (fits-total n F)))
      (eq-or-lt_of_le h)

  pub le-term-total : (n : ℕ) → nonneg z ≡ true → T (fits f z) → ((k : ℕ) → k < n → nonneg (g k) ≡ true) → ((k : ℕ) → k < n → T (fits f (g k))) → (k : ℕ) → k < n → le (g k) (total f g z n) ≡ true
  unfolding total
  le-term-total n p F q G k h =
      let s = nonneg-total f g z k p (λ j i. q j (omega arith)) in
      le-trans-nonneg (g k) (total f g z (suc k)) (total f g z n) (q k h) (nonneg-total f g z (suc k) p (λ j i. q j (omega arith))) (nonneg-total f g z n p q)
      (le-add-second f (total f g z k) (g k) s (q k h) (G k h))
      (le-total-total n p F q (suc k) h)
