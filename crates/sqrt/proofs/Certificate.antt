-- How to know `nearest_root` with no root taken: it is q * 2 ^ k units if the root's square is A * 4 ^ k units,
-- A has twice the format's digits, and √A lies between q - 1/2 and q + 1/2. Assumes nothing.
use mathlib.Core.Path.{◌≡◌, refl, sym, ap, ◌∙◌, subst}
use Prim.Native.Nat.{ℕ, zero, suc, ◌+◌, ◌-◌, ◌*◌, ◌/◌, ◌^◌, ◌≤◌, ◌<◌, compare, Ordering}
use native.Mathlib.Nat.{le_trans, le_antisymm, le_of_eq, lt_of_lt_of_le, lt_of_le_of_lt, lt_of_not-le, not-le_of_lt, le_of_suc-le-suc, mul_comm}
use native.Mathlib.Nat.{mul_assoc, mul-suc, suc-mul, mul-le-mul, mul-le-mul_left, mul-le-mul_right, mul-lt-mul_of_pos_right, mul-mul-mul_comm}
use native.Mathlib.Nat.{mul-add, add-mul, mul-pos, pow-suc, mul-div_cancel}
use native.Mathlib.Omega.{arith}
use mathlib.Core.Bool.{Bool, true, false, not}
use lib.Dec.{T, leb, is_le, compare_is_eq, eqb, leb→le, nleb→lt, eqb→eq, eqb_refl}
use lib.Arith.{lt_of_le-ne}
use lib.Pow.{pow-add, pow_pos, pow_mono}
use lib.Ieee.{Float, Format, prec, low, size, nearest, units}
use lib.Ieee.Digits.{size-lt, size-le}
use lib.Ieee.Fits.{two, two-le_pos}
use Rattle.sqrt.specs.Root.{floor_root, nearest_root}
use Rattle.sqrt.proofs.Floor.{floor-between, floor-ge, floor-lt}

-- ---- what `compare` says to `nearest`
abbrev pub Cmp : Ordering → ℕ → ℕ → Type 0
Cmp Ordering.lt a b = a < b
Cmp Ordering.eq a b = a ≡ b
Cmp Ordering.gt a b = b < a

pub cmp : (a b : ℕ) → Cmp (compare a b) a b
cmp a b = go (compare a b) (leb→le a b) (nleb→lt a b) (eqb→eq a b) (λ (e : a ≡ b). subst (λ (x : ℕ). T (eqb a x)) e (eqb_refl a))
  where
    go : (o : Ordering) → (T (is_le o) → a ≤ b) → (T (not (is_le o)) → b < a) → (T (compare_is_eq o) → a ≡ b) → (a ≡ b → T (compare_is_eq o)) → Cmp o a b
    go Ordering.lt h k e n = lt_of_le-ne (h tt) n
    go Ordering.eq h k e n = e tt
    go Ordering.gt h k e n = k tt

clash-lt-eq : (a b : ℕ) → a < b → a ≡ b → ⊥
clash-lt-eq a b h e = omega arith

clash-lt-gt : (a b : ℕ) → a < b → b < a → ⊥
clash-lt-gt a b h k = omega arith

pub nearest-down : (q a b : ℕ) → a < b → nearest q (compare a b) ≡ q
nearest-down q a b h = go (compare a b) (cmp a b)
  where
    go : (o : Ordering) → Cmp o a b → nearest q o ≡ q
    go Ordering.lt c = refl
    go Ordering.eq c = absurd (clash-lt-eq a b h c)
    go Ordering.gt c = absurd (clash-lt-gt a b h c)

pub nearest-up : (q a b : ℕ) → b < a → nearest q (compare a b) ≡ suc q
nearest-up q a b h = go (compare a b) (cmp a b)
  where
    go : (o : Ordering) → Cmp o a b → nearest q o ≡ suc q
    go Ordering.lt c = absurd (clash-lt-gt a b c h)
    go Ordering.eq c = absurd (clash-lt-eq b a h (sym c))
    go Ordering.gt c = refl

-- ---- √A to the nearest whole number
not-above : (A q s : ℕ) → A ≤ s * s + s → q * q < A + q → q ≤ s
not-above A q s h k = le_of_suc-le-suc (lt_of_not-le (λ (g : suc s ≤ q). no (mul-le-mul_left q g) (mul-suc q s) (mul-le-mul_right s g) (suc-mul s s)))
  where
    no : q * suc s ≤ q * q → q * suc s ≡ q * s + q → suc s * s ≤ q * s → suc s * s ≡ s * s + s → ⊥
    no a b c d = omega arith

not-below : (A q s : ℕ) → s * s + s < A → A ≤ q * q + q → s < q
not-below A q s h k = lt_of_not-le (λ (g : q ≤ s). no g (mul-le-mul g g))
  where
    no : q ≤ s → q * q ≤ s * s → ⊥
    no g l = omega arith

at_least : (A q s : ℕ) → s * s ≤ A → A ≤ q * q + q → s ≤ q
at_least A q s h k = le_of_suc-le-suc (lt_of_not-le (λ (g : suc q ≤ s). no (mul-le-mul g g) (suc-mul q (suc q)) (mul-suc q q)))
  where
    no : suc q * suc q ≤ s * s → suc q * suc q ≡ q * suc q + suc q → q * suc q ≡ q * q + q → ⊥
    no a b c = omega arith

pub odd-square : (s : ℕ) → (2 * s + 1) * (2 * s + 1) ≡ 4 * (s * s) + 4 * s + 1
odd-square s =
    mul-add (2 * s + 1) (2 * s) 1 ∙ ap (λ (z : ℕ). z + (2 * s + 1) * 1) (add-mul (2 * s) 1 (2 * s) ∙ ap (λ (z : ℕ). z + 1 * (2 * s)) (mul-mul-mul_comm 2 s 2 s)) ∙ sum (s * s) s
  where
    sum : (a s : ℕ) → 4 * a + 1 * (2 * s) + (2 * s + 1) * 1 ≡ 4 * a + 4 * s + 1
    sum a s = omega arith

suc-square : (s : ℕ) → suc s * suc s ≡ s * s + s + suc s
suc-square s = suc-mul s (suc s) ∙ ap (λ (z : ℕ). z + suc s) (mul-suc s s)

four-mul : (A u : ℕ) → 4 * (A * u) ≡ 4 * A * u
four-mul A u = sym (mul_assoc 4 A u)

kept_at : (A u q s : ℕ) → 0 < u → s * s ≤ A → A < suc s * suc s → q * q < A + q → A ≤ q * q + q → nearest s (compare (4 * (A * u)) ((2 * s + 1) * (2 * s + 1) * u)) ≡ q
kept_at A u q s U lo hi c d = go (leb A (s * s + s)) (leb→le A (s * s + s)) (nleb→lt A (s * s + s))
  where
    under : A ≤ s * s + s → (2 * s + 1) * (2 * s + 1) ≡ 4 * (s * s) + 4 * s + 1 → 4 * A < (2 * s + 1) * (2 * s + 1)
    under h e = omega arith

    over : s * s + s < A → (2 * s + 1) * (2 * s + 1) ≡ 4 * (s * s) + 4 * s + 1 → (2 * s + 1) * (2 * s + 1) < 4 * A
    over h e = omega arith

    wide : suc s * suc s ≡ s * s + s + suc s → A ≤ suc s * suc s + suc s
    wide e = omega arith

    go : (t : Bool) → (T t → A ≤ s * s + s) → (T (not t) → s * s + s < A) → nearest s (compare (4 * (A * u)) ((2 * s + 1) * (2 * s + 1) * u)) ≡ q
    go true h k =
        nearest-down s (4 * (A * u)) ((2 * s + 1) * (2 * s + 1) * u) (lt_of_le_of_lt (le_of_eq (four-mul A u)) (mul-lt-mul_of_pos_right (under (h tt) (odd-square s)) U))
        ∙ le_antisymm (at_least A q s lo d) (not-above A q s (h tt) c)
    go false h k =
        nearest-up s (4 * (A * u)) ((2 * s + 1) * (2 * s + 1) * u) (lt_of_lt_of_le (mul-lt-mul_of_pos_right (over (k tt) (odd-square s)) U) (le_of_eq (sym (four-mul A u))))
        ∙ le_antisymm (not-below A q s (k tt) d) (not-above A q (suc s) (wide (suc-square s)) c)

-- ---- how many digits the root has
pub four : (k : ℕ) → 4 ^ k ≡ 2 ^ k * 2 ^ k
four zero = refl
four (suc k) = pow-suc 4 k ∙ ap (λ (z : ℕ). z * 4) (four k) ∙ sym (ap (λ (z : ℕ). z * z) (pow-suc 2 k) ∙ mul-mul-mul_comm (2 ^ k) 2 (2 ^ k) 2)

pub shift-square : (a k : ℕ) → 2 ^ (a + k) * 2 ^ (a + k) ≡ 2 ^ a * 2 ^ a * 4 ^ k
shift-square a k = ap (λ (z : ℕ). z * z) (pow-add 2 a k) ∙ mul-mul-mul_comm (2 ^ a) (2 ^ k) (2 ^ a) (2 ^ k) ∙ ap (λ (z : ℕ). 2 ^ a * 2 ^ a * z) (sym (four k))

size_is : (s z : ℕ) → 2 ^ z ≤ s → s < 2 ^ suc z → size s ≡ suc z
size_is s z lo hi = le_antisymm (size-le s (suc z) hi) (lt_of_not-le (λ (g : size s ≤ z). not-le_of_lt (lt_of_lt_of_le (size-lt s) (pow_mono g)) lo))

digits-of-root : (p A k : ℕ) → 0 < p → 2 ^ (p - 1) * 2 ^ (p - 1) ≤ A → A < 2 ^ p * 2 ^ p → size (floor_root (A * 4 ^ k)) - p ≡ k
digits-of-root p A k P lo hi =
    ap (λ (z : ℕ). z - p)
    (size_is (floor_root (A * 4 ^ k)) (p - 1 + k)
    (floor-ge (A * 4 ^ k) (2 ^ (p - 1 + k)) (le_trans (le_of_eq (shift-square (p - 1) k)) (mul-le-mul_right (4 ^ k) lo)))
    (subst (λ (z : ℕ). floor_root (A * 4 ^ k) < 2 ^ z) (sym (whole p k P))
    (floor-lt (A * 4 ^ k) (2 ^ (p + k)) (lt_of_lt_of_le (mul-lt-mul_of_pos_right hi (four-pos k)) (le_of_eq (sym (shift-square p k)))))))
    ∙ rest p k P
  where
    whole : (p k : ℕ) → 0 < p → suc (p - 1 + k) ≡ p + k
    whole p k h = omega arith

    rest : (p k : ℕ) → 0 < p → suc (p - 1 + k) - p ≡ k
    rest p k h = omega arith

    four-pos : (k : ℕ) → 0 < 4 ^ k
    four-pos k = lt_of_lt_of_le (mul-pos (pow_pos k) (pow_pos k)) (le_of_eq (sym (four k)))

-- ---- `nearest_root`
abbrev pub at : Format → ℕ → ℕ → ℕ → Float
at f n den k =
    let u = den * 4 ^ k in
    let q = floor_root (n / u) in
    units f false (nearest q (compare (4 * n) ((2 * q + 1) * (2 * q + 1) * u))) k

pub nearest_root-is : (f : Format) (num den : ℕ) → nearest_root f num den ≡ at f (num * 2 ^ (2 * low f)) den (size (floor_root (num * 2 ^ (2 * low f) / den)) - prec f)
unfolding nearest_root
nearest_root-is f num den = refl

pub by-certificate : (f : Format) (num den A k q : ℕ) → 0 < den → num * 2 ^ (2 * low f) ≡ A * 4 ^ k * den → 2 ^ (prec f - 1) * 2 ^ (prec f - 1) ≤ A → A < 2 ^ prec f * 2 ^ prec f
    → q * q < A + q → A ≤ q * q + q → nearest_root f num den ≡ units f false q k
by-certificate f num den A k q D H lo hi c d =
    let u = den * 4 ^ k in
    let U : 0 < u = mul-pos D (lt_of_lt_of_le (mul-pos (pow_pos k) (pow_pos k)) (le_of_eq (sym (four k)))) in
    let e : A * 4 ^ k * den ≡ A * u = mul_assoc A (4 ^ k) den ∙ ap (λ (z : ℕ). A * z) (mul_comm (4 ^ k) den) in
    let b = floor-between A in
    nearest_root-is f num den
    ∙ ap (λ (n : ℕ). at f n den (size (floor_root (n / den)) - prec f)) H
    ∙ ap (λ (z : ℕ). at f (A * 4 ^ k * den) den (size (floor_root z) - prec f)) (mul-div_cancel (A * 4 ^ k) D)
    ∙ ap (λ (z : ℕ). at f (A * 4 ^ k * den) den z) (digits-of-root (prec f) A k (two-le_pos (prec f) (two f)) lo hi)
    ∙ ap (λ (n : ℕ). at f n den k) e
    ∙ ap (λ (z : ℕ). units f false (nearest (floor_root z) (compare (4 * (A * u)) ((2 * floor_root z + 1) * (2 * floor_root z + 1) * u))) k) (mul-div_cancel A U)
    ∙ ap (λ (z : ℕ). units f false z k) (kept_at A u q (floor_root A) U b.0 b.1 c d)
