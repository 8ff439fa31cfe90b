-- The values that `sqrt` tells apart: above zero, below zero, and neither. Assumes nothing.
use mathlib.Core.Path.{◌≡◌, refl, sym, ap, ◌∙◌, subst}
use mathlib.Core.Logic.{inl, inr}
use Prim.Native.Nat.{ℕ, zero, suc, ◌+◌, ◌*◌, ◌/◌, ◌%◌, ◌^◌, ◌<◌, ◌≤◌}
use native.Mathlib.Nat.{eq-zero-or-pos, mul-pos, zero-lt-suc, lt_of_lt_of_le, lt_of_le_of_lt, le-add_right, zero-mul, le_of_eq}
use native.Mathlib.Omega.{arith}
use mathlib.Core.Bool.{Bool, true, false, not, cond, false≢true}
use lib.IntN.{ℤ, pos}
use lib.Dec.{T, leb, eqb, le→leb, leb→le, nleb→lt}
use lib.Ieee.{Float, nan, inf, fin, up, down, binary64, odd, of_fields, of_bits, to_bits, is_nan, fits, lt, div}
use lib.Ieee.Bits.{of_bits-to_bits, nan_bits_is, nan_bits_above, is_true, is_false}
use lib.Ieee.Fits.{up_pos}
use borrow.Author.Tests.{lt-ltb, ltb-true, ltb-false}
use Rattle.double.proofs.Order.{lt-no-nan, zero_is}
use Rattle.sqrt.specs.Root.{root}
use Rattle.sqrt.specs.inner.Steps.{Rooted}
use Rattle.sqrt.proofs.Patterns.{of_bits_is}

-- +0, as MIR has the literal
abbrev pub z0 : Float
z0 = of_bits binary64 0

-- ---- above zero
abbrev over : Float → Bool
over y = lt (fin false 0 (pos 0)) y

over-is : (y : Float) → lt z0 y ≡ over y
over-is y = ap (λ (z : Float). lt z y) (zero_is binary64)

not-over-zero : over (of_bits binary64 0) ≡ true → ⊥
unfolding lt of_bits
not-over-zero h = absurd (false≢true h)

-- the pattern of a y that the format holds is of y
of-pattern : (y : Float) → fits binary64 y ≡ true → of_bits binary64 (to_bits binary64 y) ≡ y
of-pattern y f = of_bits-to_bits binary64 y (subst T (sym f) tt)

pub bits_pos : (y : Float) → fits binary64 y ≡ true → lt z0 y ≡ true → 0 < to_bits binary64 y
bits_pos y f h = elim (eq-zero-or-pos (to_bits binary64 y)) [
  | inl e ↦ absurd (not-over-zero (ap over (ap (of_bits binary64) (sym e) ∙ of-pattern y f) ∙ sym (over-is y) ∙ h))
  | inr p ↦ p
]

-- ---- a pattern with its sign set is of nothing above zero
odd-negative : (d q k l : ℕ) → over (odd d true q k l) ≡ false
unfolding odd lt
odd-negative d zero k l = refl
odd-negative d (suc q) k l = refl

fields-negative : (x t : ℕ) → over (of_fields binary64 true x t) ≡ false
unfolding of_fields lt
fields-negative zero t = odd-negative 53 t 0 1074
fields-negative (suc x) t = go (eqb (suc x) 2047) (eqb t 0)
  where
    special : (a : Bool) → over (cond a (inf true) nan) ≡ false
    special true = refl
    special false = refl

    go : (b a : Bool) → over (cond b (cond a (inf true) nan) (odd 53 true (2 ^ 52 + t) x 1074)) ≡ false
    go true a = special a
    go false a = odd-negative 53 (2 ^ 52 + t) x 1074

bits-negative : (b : ℕ) → 2 ^ 63 ≤ b → over (of_bits binary64 b) ≡ false
bits-negative b h =
    ap over (of_bits_is b ∙ ap (λ (s : Bool). of_fields binary64 s (b % 2 ^ 63 / 2 ^ 52) (b % 2 ^ 52)) (is_true (leb (2 ^ 63) b) (le→leb (2 ^ 63) b h)))
    ∙ fields-negative (b % 2 ^ 63 / 2 ^ 52) (b % 2 ^ 52)

-- ---- from the infinity's pattern up, a value above zero is the infinity
infinity : of_bits binary64 0x7ff0_0000_0000_0000 ≡ inf false
unfolding of_bits
infinity = refl

root-infinity : inf false ≡ root binary64 (inf false)
unfolding root
root-infinity = refl

exactly : (b : ℕ) → b < 2 ^ 63 → b % 2 ^ 63 ≤ 0x7ff0_0000_0000_0000 → 0x7ff0_0000_0000_0000 ≤ b → b ≡ 0x7ff0_0000_0000_0000
exactly b h k l = omega arith

only-infinity : (b : ℕ) → over (of_bits binary64 b) ≡ true → 0x7ff0_0000_0000_0000 ≤ b → of_bits binary64 b ≡ inf false
only-infinity b h l = go (leb (2 ^ 63) b) (leb→le (2 ^ 63) b) (nleb→lt (2 ^ 63) b)
  where
    go : (t : Bool) → (T t → 2 ^ 63 ≤ b) → (T (not t) → b < 2 ^ 63) → of_bits binary64 b ≡ inf false
    go true p n = absurd (false≢true (sym (bits-negative b (p tt)) ∙ h))
    go false p n =
        ap (of_bits binary64)
        (exactly b (n tt)
        (ltb-false (2047 * 2 ^ 52) (b % 2 ^ 63) (sym (nan_bits_above binary64 b) ∙ nan_bits_is binary64 b
        ∙ is_false (is_nan (of_bits binary64 b)) (lt-no-nan (fin false 0 (pos 0)) (of_bits binary64 b) h).1)) l)
        ∙ infinity

pub root-of-infinity : (y : Float) → fits binary64 y ≡ true → lt z0 y ≡ true → 0x7ff0_0000_0000_0000 ≤ to_bits binary64 y → y ≡ root binary64 y
root-of-infinity y f h l =
    let e = of-pattern y f in
    let i : y ≡ inf false = sym e ∙ only-infinity (to_bits binary64 y) (ap over e ∙ sym (over-is y) ∙ h) l in
    i ∙ root-infinity ∙ ap (root binary64) (sym i)

-- ---- below zero
none : {a b : ℕ} → 0 < a + b → a ≡ 0 → b ≡ 0 → ⊥
none h e g = omega arith

lower : {a b : ℕ} → a < b → b ≡ 0 → ⊥
lower h e = omega arith

root_below : (y : Float) → lt y z0 ≡ true → root binary64 y ≡ nan
unfolding lt root
root_below y h = go y (ap (λ (z : Float). lt y z) (sym (zero_is binary64)) ∙ h)
  where
    go : (y : Float) → lt y (fin false 0 (pos 0)) ≡ true → root binary64 y ≡ nan
    go nan h = refl
    go (inf true) h = refl
    go (inf false) h = absurd (false≢true h)
    go (fin true zero e) h = absurd (none (ltb-true 0 (0 * up e * 1 + 0 * down e) h) (ap (λ (z : ℕ). z * 1) (zero-mul (up e))) (zero-mul (down e)))
    go (fin true (suc m) e) h = refl
    go (fin false m e) h = absurd (lower (ltb-true (m * up e * 1) (0 * down e) h) (zero-mul (down e)))

-- ---- neither
size-pos : (m : ℕ) (e : ℤ) → 0 < suc m * up e * 1
size-pos m e = mul-pos (mul-pos (zero-lt-suc m) (up_pos e)) (zero-lt-suc 0)

pub root-neither : (y : Float) → lt z0 y ≡ false → lt y z0 ≡ false → y ≡ root binary64 y
unfolding lt root
root-neither y h k = go y (sym (over-is y) ∙ h) (ap (λ (z : Float). lt y z) (sym (zero_is binary64)) ∙ k)
  where
    go : (y : Float) → over y ≡ false → lt y (fin false 0 (pos 0)) ≡ false → y ≡ root binary64 y
    go nan h k = refl
    go (inf true) h k = absurd (false≢true (sym k))
    go (inf false) h k = absurd (false≢true (sym h))
    go (fin s zero e) h k = refl
    go (fin false (suc m) e) h k = absurd (false≢true (sym h ∙ lt-ltb (0 * down e) (suc m * up e * 1) (lt_of_le_of_lt (le_of_eq (zero-mul (down e))) (size-pos m e))))
    go (fin true (suc m) e) h k = absurd (false≢true (sym k ∙ lt-ltb 0 (suc m * up e * 1 + 0 * down e) (lt_of_lt_of_le (size-pos m e) (le-add_right (suc m * up e * 1) (0 * down e)))))

zero_by_zero : div binary64 z0 z0 ≡ nan
unfolding div of_bits
zero_by_zero = refl

pub root-negative : (y : Float) → lt y z0 ≡ true → div binary64 z0 z0 ≡ root binary64 y
root-negative y h = zero_by_zero ∙ sym (root_below y h)

-- ---- by the pattern
pub root-by-pattern : (y : Float) (r : ℕ) → fits binary64 y ≡ true → Rooted (to_bits binary64 y) r → of_bits binary64 r ≡ root binary64 y
root-by-pattern y r f h = h.is ∙ ap (root binary64) (of-pattern y f)
