-- Bit patterns of binary64, and the values that they stand for. Assumes nothing.
use mathlib.Core.Path.{◌≡◌, refl, sym, ap, ◌∙◌}
use Prim.Native.Nat.{ℕ, zero, suc, ◌+◌, ◌-◌, ◌*◌, ◌/◌, ◌%◌, ◌^◌, ◌<◌, ◌≤◌}
use native.Mathlib.Nat.{lt_of_lt_of_le, mod-eq_of_lt, eq_of_mul-eq-mul_right, mul_right_comm, lt_irrefl, two-pow-succ}
use native.Mathlib.Omega.{arith}
use mathlib.Core.Bool.{Bool, false, cond}
use lib.Dec.{T, leb, eqb, eqb→eq, not_T}
use lib.Arith.{lt→nleb}
use lib.Pow.{pow_mono, shl_lt}
use lib.Count.{count_trailing_zeros, under}
use lib.Ieee.{Float, nan, inf, fin, up, down, binary64, minus, odd, units, of_fields, of_bits}
use lib.Ieee.Bits.{is_false, cond_no}
use lib.Ieee.Exact.{HasValue}
use borrow.Author.Tests.{lt-ltb}

-- ---- the patterns below the infinity's
pub of_bits_is : (b : ℕ) → of_bits binary64 b ≡ of_fields binary64 (leb (2 ^ 63) b) (b % 2 ^ 63 / 2 ^ 52) (b % 2 ^ 52)
unfolding of_bits
of_bits_is b = refl

positive-is : (b : ℕ) → b < 2 ^ 63 → of_bits binary64 b ≡ of_fields binary64 false (b / 2 ^ 52) (b % 2 ^ 52)
positive-is b h =
    of_bits_is b
    ∙ ap (λ (s : Bool). of_fields binary64 s (b % 2 ^ 63 / 2 ^ 52) (b % 2 ^ 52)) (is_false (leb (2 ^ 63) b) (lt→nleb (2 ^ 63) b h))
    ∙ ap (λ (x : ℕ). of_fields binary64 false (x / 2 ^ 52) (b % 2 ^ 52)) (mod-eq_of_lt h)

field-zero : (t : ℕ) → of_fields binary64 false 0 t ≡ odd 53 false t 0 1074
unfolding of_fields
field-zero t = refl

differ : (x : ℕ) → suc x < 2047 → suc x ≡ 2047 → ⊥
differ x h e = omega arith

field-some : (t x : ℕ) → suc x < 2047 → of_fields binary64 false (suc x) t ≡ odd 53 false (2 ^ 52 + t) x 1074
unfolding of_fields
field-some t x h =
    cond_no (eqb (suc x) 2047) (cond (eqb t 0) (inf false) nan) (odd 53 false (2 ^ 52 + t) x 1074)
    (not_T (eqb (suc x) 2047) (λ (u : T (eqb (suc x) 2047)). differ x h (eqb→eq (suc x) 2047 u)))

pub subnormal : (b : ℕ) → b < 2 ^ 52 → of_bits binary64 b ≡ odd 53 false (b % 2 ^ 52) 0 1074
subnormal b h = positive-is b (wide b h) ∙ ap (λ (x : ℕ). of_fields binary64 false x (b % 2 ^ 52)) (none b h) ∙ field-zero (b % 2 ^ 52)
  where
    wide : (b : ℕ) → b < 2 ^ 52 → b < 2 ^ 63
    wide b h = omega arith

    none : (b : ℕ) → b < 2 ^ 52 → b / 2 ^ 52 ≡ 0
    none b h = omega arith

pub normal : (b : ℕ) → 2 ^ 52 ≤ b → b < 0x7ff0_0000_0000_0000 → of_bits binary64 b ≡ odd 53 false (2 ^ 52 + b % 2 ^ 52) (b / 2 ^ 52 - 1) 1074
normal b l h = positive-is b (wide b h) ∙ ap (λ (x : ℕ). of_fields binary64 false x (b % 2 ^ 52)) (some b l) ∙ field-some (b % 2 ^ 52) (b / 2 ^ 52 - 1) (few b l h)
  where
    wide : (b : ℕ) → b < 0x7ff0_0000_0000_0000 → b < 2 ^ 63
    wide b h = omega arith

    some : (b : ℕ) → 2 ^ 52 ≤ b → b / 2 ^ 52 ≡ suc (b / 2 ^ 52 - 1)
    some b h = omega arith

    few : (b : ℕ) → 2 ^ 52 ≤ b → b < 0x7ff0_0000_0000_0000 → suc (b / 2 ^ 52 - 1) < 2047
    few b l h = omega arith

-- ---- from one fraction to another of the same size
pub rescale : (x : Float) (s : Bool) (w l num den : ℕ) → 0 < l → num * l ≡ w * den → HasValue x s w l → HasValue x s num den
rescale nan s w l num den p h v = v
rescale (inf t) s w l num den p h v = v
rescale (fin t m e) s w l num den p h v = (
  v.0,
  eq_of_mul-eq-mul_right l p (m * up e * den) (num * down e)
      (mul_right_comm (m * up e) den l
      ∙ ap (λ (x : ℕ). x * den) v.1
      ∙ mul_right_comm w (down e) den
      ∙ ap (λ (x : ℕ). x * down e) (sym h)
      ∙ mul_right_comm num l (down e)),
)

-- ---- a number of 53 digits and more than none: `odd` looks for no more zeros at its end than there can be
no-digits : (n : ℕ) → 0 < n → n < 1 → ⊥
no-digits n h k = omega arith

pub enough : (d n : ℕ) → 0 < n → n < 2 ^ d → count_trailing_zeros (suc d) n ≡ count_trailing_zeros d n
unfolding count_trailing_zeros
enough zero n h k = absurd (no-digits n h k)
enough (suc d) n h k = go (n % 2) refl (enough d (n / 2))
  where
    halves : (n p q : ℕ) → p ≡ q + q → n < p → n / 2 < q
    halves n p q e l = omega arith

    some : (n : ℕ) → 0 < n → n % 2 ≡ 0 → 0 < n / 2
    some n l e = omega arith

    go : (r : ℕ) → n % 2 ≡ r → (0 < n / 2 → n / 2 < 2 ^ d → count_trailing_zeros (suc d) (n / 2) ≡ count_trailing_zeros d (n / 2)) →
        under r (count_trailing_zeros (suc d) (n / 2)) ≡ under r (count_trailing_zeros d (n / 2))
    go zero e ih = ap suc (ih (some n h e) (halves n (2 ^ suc d) (2 ^ d) (two-pow-succ d) k))
    go (suc r) e ih = refl

-- ---- the value that is q * 2 ^ k units, for a q of 53 digits, has the pattern k * 2 ^ 52 + q
odd-enough : (q k : ℕ) → 0 < q → q < 2 ^ 53 → odd 54 false q k 1074 ≡ odd 53 false q k 1074
unfolding odd
odd-enough zero k h l = absurd (lt_irrefl 0 h)
odd-enough (suc q) k h l = ap (λ (t : ℕ). fin false (suc q / 2 ^ t) (minus (k + t) 1074)) (enough 53 (suc q) h l)

units-is : (q k : ℕ) → q * 2 ^ k < 2 ^ (1074 + 1024) → units binary64 false q k ≡ odd 54 false q k 1074
unfolding units
units-is q k h = ap (λ (t : Bool). cond t (odd 54 false q k 1074) (inf false)) (lt-ltb (q * 2 ^ k) (2 ^ (1074 + 1024)) h)

pub pattern-of : (q k : ℕ) → 2 ^ 52 ≤ q → q < 2 ^ 53 → k < 2045 → of_bits binary64 (k * 2 ^ 52 + q) ≡ units binary64 false q k
pattern-of q k lo hi K =
    normal (k * 2 ^ 52 + q) (least q k lo) (most q k hi K)
    ∙ ap (λ (z : ℕ). odd 53 false z ((k * 2 ^ 52 + q) / 2 ^ 52 - 1) 1074) (digits q k lo hi)
    ∙ ap (λ (z : ℕ). odd 53 false q z 1074) (exponent q k lo hi)
    ∙ sym (units-is q k (lt_of_lt_of_le (shl_lt 53 k hi) (pow_mono (fine k K))) ∙ odd-enough q k (some q lo) hi)
  where
    least : (q k : ℕ) → 2 ^ 52 ≤ q → 2 ^ 52 ≤ k * 2 ^ 52 + q
    least q k h = omega arith

    most : (q k : ℕ) → q < 2 ^ 53 → k < 2045 → k * 2 ^ 52 + q < 0x7ff0_0000_0000_0000
    most q k h l = omega arith

    digits : (q k : ℕ) → 2 ^ 52 ≤ q → q < 2 ^ 53 → 2 ^ 52 + (k * 2 ^ 52 + q) % 2 ^ 52 ≡ q
    digits q k h l = omega arith

    exponent : (q k : ℕ) → 2 ^ 52 ≤ q → q < 2 ^ 53 → (k * 2 ^ 52 + q) / 2 ^ 52 - 1 ≡ k
    exponent q k h l = omega arith

    fine : (k : ℕ) → k < 2045 → 53 + k ≤ 1074 + 1024
    fine k h = omega arith

    some : (q : ℕ) → 2 ^ 52 ≤ q → 0 < q
    some q h = omega arith
