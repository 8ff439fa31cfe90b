-- `nearest_root` on whole numbers. The root is √(n / den) units. The result is Q units, and any other value of the format, G units, is farther from the root. Assumes nothing.
-- That is said with the middle of the two, (Q + G) / 2: it is below the root if G is below Q, and above the root if G is above Q, and both sides are squared.
-- A tie, where the root is the middle of two values next to each other, cannot be: `no_tie`.
use mathlib.Core.Path.{◌≡◌, sym, ap, ◌∙◌, subst}
use mathlib.Core.Logic.{◌⊎◌, inl, inr}
use Prim.Native.Nat.{ℕ, suc, ◌+◌, ◌-◌, ◌*◌, ◌/◌, ◌%◌, ◌^◌, ◌≤◌, ◌<◌, compare, Ordering}
use native.Mathlib.Nat.{le_refl, le_trans, le_of_eq, le_of_lt, lt_of_lt_of_le, lt_of_le_of_lt, lt_of_not-le, not-le_of_lt, le_of_suc-le-suc}
use native.Mathlib.Nat.{eq-zero-or-pos, mul_comm, mul_assoc, mul-le-mul, mul-le-mul_left, mul-le-mul_right, mul-lt-mul_of_pos_right}
use native.Mathlib.Nat.{lt_of_mul-lt-mul_right, mul-mul-mul_comm, mul-pos, add-le-add, add-mul, suc-mul, le-div_iff_mul-le, div-lt_iff_lt-mul}
use native.Mathlib.Nat.{div-div-eq-div-mul, eq_of_mul-eq-mul_right, le_of_mul-le-mul_right, pow-succ'}
use native.Mathlib.Decide.{dec_le}
use native.Mathlib.Omega.{arith}
use lib.Pow.{pow-add, pow_pos, pow_mono}
use lib.Bits.{shifted_even}
use lib.Ieee.{Format, prec, size, nearest}
use lib.Ieee.Digits.{size-lt, size_reaches}
use lib.Ieee.Fits.{two, two-le_pos, nearest-le}
use Rattle.sqrt.specs.Root.{floor_root}
use Rattle.sqrt.proofs.Floor.{floor-between, floor-ge, floor-lt}
use Rattle.sqrt.proofs.Certificate.{Cmp, cmp, four, shift-square, odd-square}

-- √(n / den) is nearer to Q than to G
pub record Nearer (n den Q G : ℕ) : Type 0 where
  pub below : G < Q → (Q + G) * (Q + G) * den < 4 * n
  pub above : Q < G → 4 * n < (Q + G) * (Q + G) * den

-- ---- between s * 2 ^ k and the next multiple of 2 ^ k the format, of p digits, has nothing
gap : (p s k a j : ℕ) → 0 < p → (k ≡ 0) ⊎ (2 ^ (p - 1) ≤ s) → a < 2 ^ p → s * 2 ^ k < a * 2 ^ j → suc s * 2 ^ k ≤ a * 2 ^ j
gap p s k a j P (inl z) A h = subst (λ (t : ℕ). suc s * 2 ^ t ≤ a * 2 ^ j) (sym z) (unit (a * 2 ^ j) (subst (λ (t : ℕ). s * 2 ^ t < a * 2 ^ j) z h))
  where
    unit : (G : ℕ) → s * 1 < G → suc s * 1 ≤ G
    unit G l = omega arith
gap p s k a j P (inr b) A h = go (dec_le k j)
  where
    join : k ≤ j → j ≡ j - k + k
    join l = omega arith

    fewer : j < k → p + j ≤ p - 1 + k
    fewer l = omega arith

    go : Dec (k ≤ j) → suc s * 2 ^ k ≤ a * 2 ^ j
    go (yes l) =
        let e : a * 2 ^ j ≡ a * 2 ^ (j - k) * 2 ^ k = ap (λ (z : ℕ). a * z) (ap (λ (z : ℕ). 2 ^ z) (join l) ∙ pow-add 2 (j - k) k) ∙ sym (mul_assoc a (2 ^ (j - k)) (2 ^ k)) in
        le_trans (mul-le-mul_right (2 ^ k) (lt_of_mul-lt-mul_right (2 ^ k) (lt_of_lt_of_le h (le_of_eq e)))) (le_of_eq (sym e))
    go (no n) =
        absurd (not-le_of_lt h
        (le_trans (mul-le-mul_right (2 ^ j) (le_of_lt A))
        (le_trans (le_of_eq (sym (pow-add 2 p j)))
        (le_trans (pow_mono (fewer (lt_of_not-le n)))
        (le_trans (le_of_eq (pow-add 2 (p - 1) k)) (mul-le-mul_right (2 ^ k) b))))))

-- ---- squares of multiples of 2 ^ k, in units
scaled : (t k den : ℕ) → t * 2 ^ k * (t * 2 ^ k) * den ≡ t * t * (den * 4 ^ k)
scaled t k den =
    ap (λ (z : ℕ). z * den) (mul-mul-mul_comm t (2 ^ k) t (2 ^ k) ∙ ap (λ (z : ℕ). t * t * z) (sym (four k)))
    ∙ mul_assoc (t * t) (4 ^ k) den ∙ ap (λ (z : ℕ). t * t * z) (mul_comm (4 ^ k) den)

square_le : (a b den : ℕ) → a ≤ b → a * a * den ≤ b * b * den
square_le a b den h = mul-le-mul_right den (mul-le-mul h h)

square-lt : (a b den : ℕ) → 0 < den → a < b → a * a * den < b * b * den
square-lt a b den D h = mul-lt-mul_of_pos_right (lt_of_le_of_lt (mul-le-mul_left a (le_of_lt h)) (mul-lt-mul_of_pos_right h (some a b h))) D
  where
    some : (a b : ℕ) → a < b → 0 < b
    some a b h = omega arith

twice-square : (t u : ℕ) → 2 * t * (2 * t) * u ≡ 4 * (t * t * u)
twice-square t u = ap (λ (z : ℕ). z * u) (mul-mul-mul_comm 2 t 2 t) ∙ mul_assoc 4 (t * t) u

odd-multiple : (s K : ℕ) → (2 * s + 1) * K ≡ s * K + suc s * K
odd-multiple s K = add-mul (2 * s) 1 K ∙ ap (λ (z : ℕ). z + 1 * K) (mul_assoc 2 s K) ∙ sum (s * K) K ∙ ap (λ (z : ℕ). s * K + z) (sym (suc-mul s K))
  where
    sum : (a K : ℕ) → 2 * a + 1 * K ≡ a + (a + K)
    sum a K = omega arith

module _ (n den s k : ℕ) (D : 0 < den) (lo : s * s * (den * 4 ^ k) ≤ n) (hi : n < suc s * suc s * (den * 4 ^ k)) where
  -- with G below Q, the middle is below Q, and with G above Q above it
  under-root : (t G : ℕ) → t * t * (den * 4 ^ k) ≤ n → G < t * 2 ^ k → (t * 2 ^ k + G) * (t * 2 ^ k + G) * den < 4 * n
  under-root t G h l =
      lt_of_lt_of_le (square-lt (t * 2 ^ k + G) (2 * (t * 2 ^ k)) den D (sum (t * 2 ^ k) G l))
      (le_trans (le_of_eq (twice-square (t * 2 ^ k) den ∙ ap (λ (z : ℕ). 4 * z) (scaled t k den))) (mul-le-mul_left 4 h))
    where
      sum : (T G : ℕ) → G < T → T + G < 2 * T
      sum T G l = omega arith

  over_root : (t G : ℕ) → n ≤ t * t * (den * 4 ^ k) → t * 2 ^ k < G → 4 * n < (t * 2 ^ k + G) * (t * 2 ^ k + G) * den
  over_root t G h l =
      lt_of_le_of_lt (mul-le-mul_left 4 h)
      (lt_of_le_of_lt (le_of_eq (sym (twice-square (t * 2 ^ k) den ∙ ap (λ (z : ℕ). 4 * z) (scaled t k den)))) (square-lt (2 * (t * 2 ^ k)) (t * 2 ^ k + G) den D (sum (t * 2 ^ k) G l)))
    where
      sum : (T G : ℕ) → T < G → 2 * T < T + G
      sum T G l = omega arith

  -- s, where the root is below s + 1/2
  lower : (G : ℕ) → (s * 2 ^ k < G → suc s * 2 ^ k ≤ G) → 4 * n < (2 * s + 1) * (2 * s + 1) * (den * 4 ^ k) → Nearer n den (s * 2 ^ k) G
  lower G g h = record {
    below = under-root s G lo;
    above = λ l.
        lt_of_lt_of_le h
        (le_trans (le_of_eq (sym (scaled (2 * s + 1) k den)))
        (square_le ((2 * s + 1) * 2 ^ k) (s * 2 ^ k + G) den (le_trans (le_of_eq (odd-multiple s (2 ^ k))) (add-le-add (le_refl (s * 2 ^ k)) (g l)))));
  }

  -- s + 1, where the root is above s + 1/2
  upper : (G : ℕ) → (s * 2 ^ k < G → suc s * 2 ^ k ≤ G) → (2 * s + 1) * (2 * s + 1) * (den * 4 ^ k) < 4 * n → Nearer n den (suc s * 2 ^ k) G
  upper G g h = record {
    below = λ l.
        let small : G ≤ s * 2 ^ k = le_of_suc-le-suc (lt_of_not-le (λ (b : s * 2 ^ k < G). not-le_of_lt l (g b))) in
        lt_of_le_of_lt (square_le (suc s * 2 ^ k + G) ((2 * s + 1) * 2 ^ k) den (sum (suc s * 2 ^ k) (s * 2 ^ k) G ((2 * s + 1) * 2 ^ k) (odd-multiple s (2 ^ k)) small))
        (lt_of_le_of_lt (le_of_eq (scaled (2 * s + 1) k den)) h);
    above = over_root (suc s) G (le_of_lt hi);
  }
    where
      sum : (T S G O : ℕ) → O ≡ S + T → G ≤ S → T + G ≤ O
      sum T S G O e l = omega arith

  pub rounded : (G : ℕ) → (s * 2 ^ k < G → suc s * 2 ^ k ≤ G) → (4 * n ≡ (2 * s + 1) * (2 * s + 1) * (den * 4 ^ k) → ⊥)
      → Nearer n den (nearest s (compare (4 * n) ((2 * s + 1) * (2 * s + 1) * (den * 4 ^ k))) * 2 ^ k) G
  rounded G g t = go (compare (4 * n) ((2 * s + 1) * (2 * s + 1) * (den * 4 ^ k))) (cmp (4 * n) ((2 * s + 1) * (2 * s + 1) * (den * 4 ^ k)))
    where
      go : (o : Ordering) → Cmp o (4 * n) ((2 * s + 1) * (2 * s + 1) * (den * 4 ^ k)) → Nearer n den (nearest s o * 2 ^ k) G
      go Ordering.lt c = lower G g c
      go Ordering.eq c = absurd (t c)
      go Ordering.gt c = upper G g c

-- ---- a number b * 2 ^ i that is even, with a b of p digits, is no odd square times 4 ^ k
no-parity : (c s O : ℕ) → c % 2 ≡ 0 → O ≡ 4 * (s * s) + 4 * s + 1 → c ≡ O → ⊥
no-parity c s O e o g = omega arith

no_tie : (p s k b i : ℕ) → 0 < p → (k ≡ 0) ⊎ (2 ^ (p - 1) ≤ s) → b < 2 ^ p → 0 < i → b * 2 ^ i ≡ (2 * s + 1) * (2 * s + 1) * 4 ^ k → ⊥
no_tie p s k b i P F B I e = go (dec_le i (k + k))
  where
    O : ℕ
    O = (2 * s + 1) * (2 * s + 1)

    power : 4 ^ k ≡ 2 ^ (k + k)
    power = four k ∙ sym (pow-add 2 k k)

    even : (j : ℕ) → 0 < j → b * 2 ^ j % 2 ≡ 0
    even j h = subst (λ (z : ℕ). b * 2 ^ z % 2 ≡ 0) (again j h) (shifted_even b (j - 1))
      where
        again : (j : ℕ) → 0 < j → suc (j - 1) ≡ j
        again j h = omega arith

    large : (k ≡ 0) ⊎ (2 ^ (p - 1) ≤ s) → i ≤ k + k → 2 ^ (p - 1) ≤ s
    large (inl z) l = absurd (none k z l)
      where
        none : (k : ℕ) → k ≡ 0 → i ≤ k + k → ⊥
        none k z l = omega arith
    large (inr h) l = h

    clash : (h w : ℕ) → h ≤ s → w ≡ 2 * h → b < w → (2 * s + 1) * (2 * s + 1) ≤ b → (2 * s + 1) * (2 * s + 1) ≡ 4 * (s * s) + 4 * s + 1 → ⊥
    clash h w a q c d o = omega arith

    twice : 2 ^ p ≡ 2 * 2 ^ (p - 1)
    twice = ap (λ (z : ℕ). 2 ^ z) (again p P) ∙ pow-succ' 2 (p - 1)
      where
        again : (p : ℕ) → 0 < p → p ≡ suc (p - 1)
        again p h = omega arith

    join : k + k < i → i ≡ i - (k + k) + (k + k)
    join l = omega arith

    left : k + k < i → 0 < i - (k + k)
    left l = omega arith

    go : Dec (i ≤ k + k) → ⊥
    go (yes l) =
        clash (2 ^ (p - 1)) (2 ^ p) (large F l) twice B
        (le_of_mul-le-mul_right (le_trans (mul-le-mul_left ((2 * s + 1) * (2 * s + 1)) (le_trans (pow_mono l) (le_of_eq (sym power)))) (le_of_eq (sym e))) (pow_pos i)) (odd-square s)
    go (no f) =
        let l : k + k < i = lt_of_not-le f in
        let c : b * 2 ^ (i - (k + k)) * 2 ^ (k + k) ≡ (2 * s + 1) * (2 * s + 1) * 2 ^ (k + k) =
        mul_assoc b (2 ^ (i - (k + k))) (2 ^ (k + k))
        ∙ ap (λ (z : ℕ). b * z) (sym (pow-add 2 (i - (k + k)) (k + k)) ∙ ap (λ (z : ℕ). 2 ^ z) (sym (join l)))
        ∙ e
        ∙ ap (λ (z : ℕ). (2 * s + 1) * (2 * s + 1) * z) power in
        no-parity (b * 2 ^ (i - (k + k))) s ((2 * s + 1) * (2 * s + 1)) (even (i - (k + k)) (left l)) (odd-square s)
        (eq_of_mul-eq-mul_right (2 ^ (k + k)) (pow_pos (k + k)) (b * 2 ^ (i - (k + k))) ((2 * s + 1) * (2 * s + 1)) c)

-- ---- the digits that are kept and dropped
module _ (p n den : ℕ) (P : 0 < p) (D : 0 < den) where
  abbrev pub whole : ℕ
  whole = floor_root (n / den)

  abbrev pub dropped : ℕ
  dropped = size whole - p

  abbrev pub kept : ℕ
  kept = floor_root (n / (den * 4 ^ dropped))

  unit-pos : 0 < den * 4 ^ dropped
  unit-pos = mul-pos D (lt_of_lt_of_le (mul-pos (pow_pos dropped) (pow_pos dropped)) (le_of_eq (sym (four dropped))))

  pub kept_low : kept * kept * (den * 4 ^ dropped) ≤ n
  kept_low = (le-div_iff_mul-le unit-pos).0 (floor-between (n / (den * 4 ^ dropped))).0

  pub kept_high : n < suc kept * suc kept * (den * 4 ^ dropped)
  kept_high = (div-lt_iff_lt-mul unit-pos).0 (floor-between (n / (den * 4 ^ dropped))).1

  -- digits are dropped only where all the format's digits are kept
  pub reaches : (dropped ≡ 0) ⊎ (2 ^ (p - 1 + dropped) ≤ whole)
  reaches = elim (eq-zero-or-pos dropped) [ inl z ↦ inl z | inr h ↦ inr (size_reaches whole (p - 1 + dropped) (within (size whole) h)) ]
    where
      within : (z : ℕ) → 0 < z - p → p - 1 + (z - p) < z
      within z h = omega arith

  pub full : (dropped ≡ 0) ⊎ (2 ^ (p - 1) ≤ kept)
  full = elim reaches [
    | inl z ↦ inl z
    | inr r ↦
        inr
        (floor-ge (n / (den * 4 ^ dropped)) (2 ^ (p - 1))
        (le_trans
        ((le-div_iff_mul-le (lt_of_lt_of_le (mul-pos (pow_pos dropped) (pow_pos dropped)) (le_of_eq (sym (four dropped))))).1
        (le_trans (le_of_eq (sym (shift-square (p - 1) dropped))) (le_trans (mul-le-mul r r) (floor-between (n / den)).0)))
        (le_of_eq (div-div-eq-div-mul n den (4 ^ dropped)))))
  ]

  pub kept-lt : kept < 2 ^ p
  kept-lt =
      floor-lt (n / (den * 4 ^ dropped)) (2 ^ p)
      (lt_of_le_of_lt (le_of_eq (sym (div-div-eq-div-mul n den (4 ^ dropped))))
      ((div-lt_iff_lt-mul (lt_of_lt_of_le (mul-pos (pow_pos dropped) (pow_pos dropped)) (le_of_eq (sym (four dropped))))).1
      (lt_of_lt_of_le (floor-between (n / den)).1
      (le_trans (mul-le-mul top top) (le_of_eq (shift-square p dropped))))))
    where
      more : (z : ℕ) → z ≤ p + (z - p)
      more z = omega arith

      top : suc whole ≤ 2 ^ (p + dropped)
      top = lt_of_lt_of_le (size-lt whole) (pow_mono (more (size whole)))

-- ---- the result in units
abbrev pub multiple : Format → ℕ → ℕ → ℕ
multiple f n den =
    let k = size (floor_root (n / den)) - prec f in
    let u = den * 4 ^ k in
    let q = floor_root (n / u) in
    nearest q (compare (4 * n) ((2 * q + 1) * (2 * q + 1) * u))

abbrev pub in_units : Format → ℕ → ℕ → ℕ
in_units f n den = multiple f n den * 2 ^ (size (floor_root (n / den)) - prec f)

-- Every value of the format is a * 2 ^ j units for an a below 2 ^ prec, and each but the result is farther.
-- √(n / den) is the root of a value of the format, so 4 * n / den is such a number too, and even.
pub nearer : (f : Format) (n den a j b i : ℕ) → 0 < den → a < 2 ^ prec f → b < 2 ^ prec f → 0 < i → 4 * n ≡ b * 2 ^ i * den → Nearer n den (in_units f n den) (a * 2 ^ j)
nearer f n den a j b i D A B I e =
    let p = prec f in
    let P = two-le_pos p (two f) in
    let k = dropped p n den P D in
    let s = kept p n den P D in
    rounded n den s k D (kept_low p n den P D) (kept_high p n den P D) (a * 2 ^ j) (gap p s k a j P (full p n den P D) A)
    (λ (t : 4 * n ≡ (2 * s + 1) * (2 * s + 1) * (den * 4 ^ k)).
    no_tie p s k b i P (full p n den P D) B I
    (eq_of_mul-eq-mul_right den D (b * 2 ^ i) ((2 * s + 1) * (2 * s + 1) * 4 ^ k)
    (sym e ∙ t ∙ ap (λ (z : ℕ). (2 * s + 1) * (2 * s + 1) * z) (mul_comm den (4 ^ k)) ∙ sym (mul_assoc ((2 * s + 1) * (2 * s + 1)) (4 ^ k) den))))

pub multiple-le : (f : Format) (n den : ℕ) → 0 < den → multiple f n den ≤ 2 ^ prec f
multiple-le f n den D =
    let P = two-le_pos (prec f) (two f) in
    let q = kept (prec f) n den P D in
    le_trans (nearest-le q (compare (4 * n) ((2 * q + 1) * (2 * q + 1) * (den * 4 ^ dropped (prec f) n den P D)))) (kept-lt (prec f) n den P D)
