-- What `root_bits` returns: the pattern of the root. Assumes nothing.
use mathlib.Core.Path.{◌≡◌, sym, ap, ◌∙◌}
use Prim.Native.Nat.{ℕ, suc, ◌+◌, ◌*◌, ◌/◌, ◌%◌, ◌^◌, ◌<◌, ◌≤◌}
use native.Mathlib.Nat.{lt_of_lt_of_le, mul_assoc, mul_right_comm, mul-le-mul_right, mul-lt-mul_of_pos_right, mul-pos, pow-succ'}
use native.Mathlib.Omega.{arith}
use lib.Pow.{pow-add, pow_pos}
use lib.Ieee.{binary64, of_bits}
use lib.Ieee.Positive.{num, den, den_pos, value→cross, positive_of_value}
use Rattle.sqrt.proofs.Certificate.{four, by-certificate}
use Rattle.sqrt.proofs.Meaning.{root-positive}
use Rattle.sqrt.specs.inner.Steps.{Settled, Split, Rooted}
use Rattle.sqrt.proofs.Patterns.{pattern-of}

regroup : (N D w d K a b : ℕ) → N * a ≡ w * D → w ≡ d * K → N * (a * b) ≡ d * b * K * D
regroup N D w d K a b e g =
    sym (mul_assoc N a b) ∙ ap (λ (z : ℕ). z * b) (e ∙ ap (λ (z : ℕ). z * D) g) ∙ mul_right_comm (d * K) D b ∙ ap (λ (z : ℕ). z * D) (mul_right_comm d K b)

rooted : (b m x k d q : ℕ) → Split b m x → Settled d q → k < 2045 → 2 ^ 52 ≤ d → d < 2 ^ 54 → m * 2 ^ x ≡ d * 4 ^ k → Rooted b (k * 2 ^ 52 + q)
rooted b m x k d q s t K lo hi e =
    let z = of_bits binary64 b in
    let pos : 0 < m * 2 ^ x = mul-pos (lt_of_lt_of_le (pow_pos 52) s.least) (pow_pos x) in
    record {
      finite = most q k t.most K;
      is =
          pattern-of q k t.least t.most K
          ∙ sym
          (root-positive binary64 z (positive_of_value z (m * 2 ^ x) (2 ^ 2096) s.value pos)
          ∙ by-certificate binary64 (num z) (den z) (d * 2 ^ 52) k q (den_pos z)
          (regroup (num z) (den z) (m * 2 ^ x) d (4 ^ k) (2 ^ 2096) (2 ^ 52) (value→cross z (m * 2 ^ x) (2 ^ 2096) s.value) e)
          (mul-le-mul_right (2 ^ 52) lo) (mul-lt-mul_of_pos_right hi (pow_pos 52)) t.not_less t.not_more);
    }
  where
    most : (q k : ℕ) → q < 2 ^ 53 → k < 2045 → k * 2 ^ 52 + q < 0x7ff0_0000_0000_0000
    most q k h l = omega arith

pub rooted-even : (b m x q : ℕ) → Split b m x → Settled m q → x % 2 ≡ 0 → Rooted b (x / 2 * 2 ^ 52 + q)
rooted-even b m x q s t e =
    rooted b m x (x / 2) m q s t (omega arith) s.least (omega arith) (ap (λ (z : ℕ). m * z) (ap (λ (z : ℕ). 2 ^ z) (halves x e) ∙ pow-add 2 (x / 2) (x / 2) ∙ sym (four (x / 2))))
  where
    halves : (x : ℕ) → x % 2 ≡ 0 → x ≡ x / 2 + x / 2
    halves x e = omega arith

pub rooted-odd : (b m x q : ℕ) → Split b m x → Settled (m + m) q → (x % 2 ≡ 0 → ⊥) → Rooted b (x / 2 * 2 ^ 52 + q)
rooted-odd b m x q s t n =
    rooted b m x (x / 2) (m + m) q s t (omega arith) (omega arith) (omega arith)
    (ap (λ (z : ℕ). m * z)
    (ap (λ (z : ℕ). 2 ^ z) (halves x n) ∙ pow-succ' 2 (x / 2 + x / 2) ∙ ap (λ (z : ℕ). 2 * z) (pow-add 2 (x / 2) (x / 2) ∙ sym (four (x / 2))))
    ∙ sym (mul_assoc m 2 (4 ^ (x / 2)))
    ∙ ap (λ (z : ℕ). z * 4 ^ (x / 2)) (twice m))
  where
    halves : (x : ℕ) → (x % 2 ≡ 0 → ⊥) → x ≡ suc (x / 2 + x / 2)
    halves x n = omega arith

    twice : (m : ℕ) → m * 2 ≡ m + m
    twice m = omega arith
