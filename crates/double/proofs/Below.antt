-- What is not below zero, a NaN among it: `lt x (of_bits f 0) ≡ false`. Sums and products of such numbers are such numbers, and so is a number
-- less one that is not above it, whatever overflows. Assumes nothing.
use mathlib.Core.Path.{◌≡◌, refl, sym, ap, subst, ◌∙◌}
use mathlib.Core.Bool.{Bool, true, false, not, cond, ◌&&◌, true≢false, false≢true}
use Prim.Native.Nat.{ℕ, zero, suc, ◌+◌, ◌-◌, ◌*◌, ◌≤◌, ◌<◌}
use native.Mathlib.Omega.{arith}
use native.Mathlib.Nat.{mul-pos, zero-lt-suc, zero-mul}
use borrow.Author.Tests.{ltb-true, ltb-false, le-ltb, eqb-true, ne_eqb}
use lib.Dec.{T, eqb, ltb}
use lib.IntN.{pos}
use lib.Ieee.{Float, nan, inf, fin, Format, binary32, binary64, up, down, unlike, neg, add, sub, mul, div, sum, round, lt, le, eq, below, is_nan, fits, of_bits}
use lib.Ieee.Bits.{is_true}
use lib.Ieee.Exact.{HasValue, round_exact}
use lib.Ieee.Fits.{up_pos, down_pos}
use lib.Ieee.Order.{round_mono}
use lib.Ieee.Scale.{finite}
use lib.Pow.{pow_pos}
use Rattle.double.specs.Sums.{nonneg}
use Rattle.double.proofs.Finite.{finite-no-nan, finite-add}
use Rattle.double.proofs.Grid.{round-own}
use Rattle.double.proofs.Less.{lt-asymmetric, lt-numbers, lt-past}
use Rattle.double.proofs.Order.{View, infinite, number, view, Sized, nonneg-round, mul-view, add-view, le-sizes, scaled, zero_is, nonneg-of-not-lt, le-add-second, le-not-gt}

-- ---- a NaN, or a number not below zero

data Kind : Float → Type 0 where
  none : Kind nan
  some : {x : Float} → View x → Kind x

kind-unless : (x : Float) → (is_nan x ≡ false → nonneg x ≡ true) → Kind x
unfolding is_nan
kind-unless nan h = none
kind-unless (inf s) h = some (view (inf s) (h refl))
kind-unless (fin s m e) h = some (view (fin s m e) (h refl))

one-fits : (f : Format) → T (fits f (fin false 1 (pos 0)))
unfolding fits
one-fits binary32 = tt
one-fits binary64 = tt

module _ (f : Format) where
  kind : (x : Float) → lt x (of_bits f 0) ≡ false → Kind x
  kind x h = kind-unless x (λ p. nonneg-of-not-lt f x p h)

  not-below : {x : Float} → Kind x → lt x (of_bits f 0) ≡ false
  unfolding lt
  not-below none = refl
  not-below (some infinite) = rw zero_is
  not-below (some (number false m e p)) = rw zero_is (le-ltb (m * up e * 1) (0 * down e) (omega (arith, zero-mul (down e))))
  not-below (some (number true zero e p)) = rw zero_is (le-ltb 0 (0 * up e * 1 + 0 * down e) (omega (arith, zero-mul (up e), zero-mul (down e))))
  not-below (some (number true (suc m) e p)) = absurd (omega (arith, eqb-true (suc m) 0 p))

  pub not-lt-of-nonneg : (x : Float) → nonneg x ≡ true → lt x (of_bits f 0) ≡ false
  not-lt-of-nonneg x p = not-below (some (view x p))

  mul-kind : {x y : Float} → Kind x → Kind y → Kind (mul f x y)
  unfolding mul
  mul-kind none l = none
  mul-kind (some infinite) none = none
  mul-kind (some (number s m e p)) none = none
  mul-kind (some v) (some w) = kind-unless _ (mul-view f v w)

  pub not-below-mul : (x y : Float) → lt x (of_bits f 0) ≡ false → lt y (of_bits f 0) ≡ false → lt (mul f x y) (of_bits f 0) ≡ false
  not-below-mul x y p q = not-below (mul-kind (kind x p) (kind y q))

  add-kind : {x y : Float} → Kind x → Kind y → Kind (add f x y)
  unfolding add
  add-kind none l = none
  add-kind (some infinite) none = none
  add-kind (some (number s m e p)) none = none
  add-kind (some v) (some w) = some (view _ (add-view f v w))

  pub not-below-add : (x y : Float) → lt x (of_bits f 0) ≡ false → lt y (of_bits f 0) ≡ false → lt (add f x y) (of_bits f 0) ≡ false
  not-below-add x y p q = not-below (add-kind (kind x p) (kind y q))

  -- ---- a number less one that is not above it

  rounded : (s : Bool) (a c : ℕ) → 0 < c → Sized s a → Kind (round f s a c)
  rounded s a c C z = some (view (round f s a c) (nonneg-round f s a c C z))

  above : (a c : ℕ) → 0 < c → Kind (round f false a c)
  above a c C = rounded false a c C (λ e. absurd (false≢true e))

  less : (s : Bool) (a : ℕ) (t : Bool) (b c : ℕ) → 0 < c → below s a t b ≡ false → Kind (sum f s a (not t) b c)
  unfolding sum
  less false a false b c C h = rw h (above (a - b) c C)
  less false a true b c C h = above (a + b) c C
  less true a false b c C h = rounded true (a + b) c C (λ e. omega (arith, ltb-false 0 (a + b) h))
  less true a true b c C h = go (ltb a b)
    where
      go : (q : Bool) → Kind (cond q (round f false (b - a) c) (round f (true && ltb b a) (a - b) c))
      go true = above (b - a) c C
      go false = rw h (above (a - b) c C)

  pub not-below-sub : (x y : Float) → lt x y ≡ false → lt (sub f x y) (of_bits f 0) ≡ false
  unfolding sub neg add lt
  not-below-sub x y h = not-below (go x y h)
    where
      go : (x y : Float) → lt x y ≡ false → Kind (sub f x y)
      go nan y h = none
      go (inf s) nan h = none
      go (inf true) (inf true) h = none
      go (inf true) (inf false) h = absurd (true≢false h)
      go (inf false) (inf true) h = some infinite
      go (inf false) (inf false) h = none
      go (inf true) (fin t n d) h = absurd (true≢false h)
      go (inf false) (fin t n d) h = some infinite
      go (fin s m e) nan h = none
      go (fin s m e) (inf true) h = some infinite
      go (fin s m e) (inf false) h = absurd (true≢false h)
      go (fin s m e) (fin t n d) h = less s (m * up e * down d) t (n * up d * down e) (down e * down d) (mul-pos (down_pos e) (down_pos d)) h

  -- ---- of x ≤ y, neither below zero: x / y is not above 1

  negative : (x : Float) (a c : ℕ) → HasValue x true a c → lt (fin false 1 (pos 0)) x ≡ false
  unfolding lt
  negative nan a c v = absurd v
  negative (inf s) a c v = absurd v
  negative (fin true m e) a c v = refl
  negative (fin false m e) a c v = absurd (false≢true v.0)

  share : (s : Bool) (a b : ℕ) → 0 < b → a ≤ b → Sized s a → lt (fin false 1 (pos 0)) (round f s a b) ≡ false
  share false a b B h z =
      le-not-gt (round f false a b) (fin false 1 (pos 0))
      (is_true _ (subst (λ (x : Float). T (le (round f false a b) x)) (round-own f (fin false 1 (pos 0)) (one-fits f) tt) (round_mono f a b 1 1 B (omega arith) (omega arith))))
  share true a b B h z = negative (round f true a b) 0 b (rw (z refl) (round_exact f true 0 b 0 0 B (pow_pos _) (pow_pos _) (simp zero-mul)))

  signed : (s : Bool) → unlike s false ≡ true → s ≡ true
  signed true z = refl
  signed false z = z

  quotient : {x y : Float} → View x → View y → le x y ≡ true → lt (fin false 1 (pos 0)) (div f x y) ≡ false
  unfolding div le lt eq
  quotient infinite infinite h = refl
  quotient infinite (number t n d q) h = absurd (false≢true h)
  quotient (number false m e p) infinite h = refl
  quotient (number true m e p) infinite h = refl
  quotient (number s m e p) (number t zero d q) h = go m (le-sizes s m e t 0 d p q h)
    where
      go : (m : ℕ) → m * up e * down d ≤ 0 * up d * down e → lt (fin false 1 (pos 0)) (cond (eqb m 0) nan (inf (unlike s t))) ≡ false
      go zero l = refl
      go (suc m) l = absurd (omega (arith, l, mul-pos (mul-pos (zero-lt-suc m) (up_pos e)) (down_pos d), ap (λ (z : ℕ). z * down e) (zero-mul (up d)), zero-mul (down e)))
  quotient (number s m e p) (number true (suc n) d q) h = absurd (omega (arith, eqb-true (suc n) 0 q))
  quotient (number s m e p) (number false (suc n) d q) h =
      rw (ne_eqb (suc n) 0 (λ z. omega arith))
      (share (unlike s false) (m * up e * down d) (suc n * up d * down e) (mul-pos (mul-pos (zero-lt-suc n) (up_pos d)) (down_pos e)) (le-sizes s m e false (suc n) d p q h) (λ z. scaled s m (up e) (down d) p (signed s z)))

  pub not-above-one : (x y : Float) → nonneg x ≡ true → nonneg y ≡ true → le x y ≡ true → lt (fin false 1 (pos 0)) (div f x y) ≡ false
  not-above-one x y p q h = quotient (view x p) (view y q) h

  -- ---- a number not below zero times one above it that is finite

  pub nonneg-mul-positive : (x y : Float) → nonneg x ≡ true → finite y ≡ true → lt (of_bits f 0) y ≡ true → nonneg (mul f x y) ≡ true
  unfolding mul lt
  nonneg-mul-positive x y p q h = go (view x p) y q (rw zero_is at h)
    where
      go : {x : Float} → View x → (y : Float) → finite y ≡ true → lt (fin false 0 (pos 0)) y ≡ true → nonneg (mul f x y) ≡ true
      go v nan q h = absurd (false≢true q)
      go v (inf t) q h = absurd (false≢true q)
      go v (fin true n d) q h = absurd (false≢true h)
      go infinite (fin false zero d) q h = absurd (omega (arith, ltb-true (0 * down d) (0 * up d * 1) h, zero-mul (up d)))
      go infinite (fin false (suc n) d) q h = rw (ne_eqb (suc n) 0 (λ z. omega arith))
      go (number s m e p) (fin false n d) q h =
          nonneg-round f (unlike s false) (m * up e * (n * up d)) (down e * down d) (mul-pos (down_pos e) (down_pos d)) (λ z. scaled s m (up e) (n * up d) p (signed s z))

  -- ---- with something above zero added it is above zero

  pub above_zero : (x r : Float) → lt x (of_bits f 0) ≡ false → lt (of_bits f 0) r ≡ true → T (fits f r) → finite (add f x r) ≡ true → lt (of_bits f 0) (add f x r) ≡ true
  above_zero x r p q F h = go (lt (of_bits f 0) a) refl
    where
      a : Float
      a = add f x r

      number_of : nonneg r ≡ true
      number_of = nonneg-of-not-lt f r (lt-numbers (of_bits f 0) r q).1 (lt-asymmetric (of_bits f 0) r q)

      go : (b : Bool) → lt (of_bits f 0) a ≡ b → b ≡ true
      go true e = refl
      go false e =
          let n = nonneg-of-not-lt f x (finite-no-nan x (finite-add f x r h).0) p in
          sym (le-not-gt r a (le-add-second f x r n number_of F)) ∙ lt-past (of_bits f 0) a r q (finite-no-nan a h) e
