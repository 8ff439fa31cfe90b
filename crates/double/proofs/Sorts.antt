-- What a test says of the sort of a double: a NaN, an infinity, a finite number. Assumes nothing.
use mathlib.Core.Path.{◌≡◌, refl, sym}
use mathlib.Core.Bool.{Bool, true, false, not, cond, beq}
use Prim.Native.Nat.{ℕ, zero, suc, ◌+◌, ◌*◌, ◌/◌, ◌%◌, ◌<◌, ◌≤◌}
use native.Mathlib.Omega.{arith}
use borrow.Author.Tests.{eq-eqb, ne_eqb}
use lib.Dec.{T, leb}
use lib.Arith.{le→nltb}
use lib.Ieee.{Float, nan, inf, fin, binary64, lt, eq, ne, odd, of_fields, of_bits, to_bits, nan_bits, is_nan, up, down}
use lib.Ieee.Bits.{nan_bits_above}
use lib.Ieee.Compare.{differs_from_itself}
use Rattle.std.specs.Float.{float_with_sign}
use Rattle.double.specs.declared.Decoded.TheVariants.{Finite, Infinite, NotANumber}
use Rattle.double.specs.Double.{greater, magnitude, sorted, decoded}

beq_same : (s : Bool) → beq s s ≡ true
beq_same true = refl
beq_same false = refl

-- ---- NaN

pub differs : (x : Float) → ne x x ≡ is_nan x
unfolding ne eq is_nan
differs nan = refl
differs (inf s) = rw (beq_same s)
differs (fin s m e) = rw (eq-eqb (m * up e * down e) (m * up e * down e) refl, beq_same s)

pub nan-bits : (x : Float) → is_nan x ≡ true → 0x7ff8_0000_0000_0000 ≡ to_bits binary64 x
unfolding to_bits
nan-bits x h = rw (differs_from_itself x (rw (differs x, h) tt))

pub no_nan : (x : Float) → is_nan x ≡ false → T (not (is_nan x))
no_nan x h = rw h tt

-- ---- the greater

either : {A : Type 0} (b : Bool) (y : A) → cond b y y ≡ y
either true y = refl
either false y = refl

module _ (x y : Float) where
  pub greater-second : lt x y ≡ true → y ≡ greater x y
  unfolding greater
  greater-second h = rw h (sym (either (is_nan x) y))

  pub greater-past-nan : is_nan x ≡ true → y ≡ greater x y
  unfolding greater
  greater-past-nan h = rw h

  pub greater-first : lt x y ≡ false → is_nan x ≡ false → x ≡ greater x y
  unfolding greater
  greater-first h k = rw (h, k)

-- ---- the magnitude

pub magnitude-is : (x : Float) → float_with_sign false x ≡ magnitude x
unfolding float_with_sign magnitude
magnitude-is nan = refl
magnitude-is (inf s) = refl
magnitude-is (fin s m e) = refl

-- ---- what 64 bits stand for

-- a pattern up to an infinity's, its sign put aside, is no NaN's
pub number-pattern : (b : ℕ) → b % 0x8000_0000_0000_0000 ≤ 0x7ff0_0000_0000_0000 → T (not (nan_bits binary64 b))
number-pattern b h = rw nan_bits_above (le→nltb 0x7ff0_0000_0000_0000 (b % 0x8000_0000_0000_0000) h)

sorted-odd : (d : ℕ) (s : Bool) (q k l : ℕ) → Finite (odd d s q k l) ≡ sorted (odd d s q k l)
unfolding odd
sorted-odd d s zero k l = refl
sorted-odd d s (suc q) k l = refl

sorted-fields : (s : Bool) (x t : ℕ) → x < 2047 → Finite (of_fields binary64 s x t) ≡ sorted (of_fields binary64 s x t)
unfolding of_fields
sorted-fields s zero t h = sorted-odd 53 s t 0 1074
sorted-fields s (suc x) t h = rw (ne_eqb (suc x) 2047 (λ e. omega arith)) (sorted-odd 53 s (0x10_0000_0000_0000 + t) x 1074)

module _ (b : ℕ) where
  pub decoded-finite : b % 0x8000_0000_0000_0000 / 0x10_0000_0000_0000 < 2047 → Finite (of_bits binary64 b) ≡ decoded b
  unfolding decoded of_bits
  decoded-finite h = sorted-fields _ _ _ h

  pub decoded-infinite : 2047 ≤ b % 0x8000_0000_0000_0000 / 0x10_0000_0000_0000 → b % 0x10_0000_0000_0000 ≡ 0 → Infinite (leb 0x8000_0000_0000_0000 b) ≡ decoded b
  unfolding decoded of_bits of_fields
  decoded-infinite h k =
      let e : b % 0x8000_0000_0000_0000 / 0x10_0000_0000_0000 ≡ 2047 = omega arith in
      rw (e, k)

  pub decoded-nan : 2047 ≤ b % 0x8000_0000_0000_0000 / 0x10_0000_0000_0000 → (b % 0x10_0000_0000_0000 ≡ 0 → ⊥) → NotANumber ≡ decoded b
  unfolding decoded of_bits of_fields
  decoded-nan h k =
      let e : b % 0x8000_0000_0000_0000 / 0x10_0000_0000_0000 ≡ 2047 = omega arith in
      rw (e, ne_eqb (b % 0x10_0000_0000_0000) 0 k)
