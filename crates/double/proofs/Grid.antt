-- The finite values of a format with the sign of +0 (`counted`), each as the fraction `num` / `den`: a multiple of the format's smallest value, which rounding leaves as it is,
-- and known by its fraction. Assumes nothing.
use mathlib.Core.Path.{◌≡◌, refl, sym, ap, ◌∙◌, subst}
use Prim.Native.Nat.{ℕ, zero, suc, ◌+◌, ◌-◌, ◌*◌, ◌/◌, ◌%◌, ◌^◌, ◌≤◌, ◌<◌}
use native.Mathlib.Nat.{le_of_eq, lt_of_lt_of_le, lt_of_le_of_lt, lt_of_not-le, not-le_of_lt, le_of_suc-le-suc, zero-mul, mul-one, mul_assoc, mul_comm, mul_right_comm, mul-lt-mul_of_pos_right}
use native.Mathlib.Nat.{lt_of_mul-lt-mul_right, mul-pos}
use mathlib.Core.Bool.{true, false, ◌&&◌, true≢false}
use lib.IntN.{pos, negsuc}
use lib.Dec.{T, leb, ltb, eqb, ltb→lt, lt→ltb, leb→le}
use lib.Pow.{pow-add, pow_pos, pow-lt}
use lib.Ieee.{Float, nan, inf, fin, Format, prec, emax, low, up, down, size, round, lt, fits, hid, of_bits, to_bits}
use lib.Ieee.Digits.{back}
use lib.Ieee.Fits.{down_pos, round-fits, and_l, and_r}
use lib.Ieee.Exact.{HasValue, round_exact}
use lib.Ieee.Bits.{of_bits-to_bits}
use lib.Ieee.Nearest.{div_same}
use lib.Ieee.Positive.{num, den, den_pos, positive, value→cross}
use Rattle.double.specs.Sums.{counted}

-- ---- which values are counted
pub counted-value : (r : Float) (Q L : ℕ) → HasValue r false Q L → T (counted r)
counted-value nan Q L h = absurd h
counted-value (inf s) Q L h = absurd h
counted-value (fin true m e) Q L h = absurd (true≢false h.0)
counted-value (fin false m e) Q L h = tt

pub positive-counted : (x : Float) → T (positive x) → T (counted x)
positive-counted nan p = absurd p
positive-counted (inf s) p = absurd p
positive-counted (fin true m e) p = absurd p
positive-counted (fin false m e) p = tt

-- ---- a value of the format is a * 2 ^ j units
pub record Grid (f : Format) (y : Float) : Type 0 where
  pub a : ℕ
  pub j : ℕ
  pub few : a < 2 ^ prec f
  pub units_of : num y * 2 ^ low f ≡ a * 2 ^ j * den y

pub pow_le_back : (a l : ℕ) → 2 ^ a ≤ 2 ^ l → a ≤ l
pow_le_back a l h = le_of_suc-le-suc (lt_of_not-le (λ (g : suc l ≤ a). not-le_of_lt (pow-lt g) h))

pub grid-of : (f : Format) (y : Float) → T (fits f y) → T (counted y) → Grid f y
unfolding fits
grid-of f nan h c = absurd c
grid-of f (inf s) h c = absurd c
grid-of f (fin true m e) h c = absurd c
grid-of f (fin false zero e) h c = record {
  a = 0;
  j = 0;
  few = pow_pos (prec f);
  units_of = ap (λ (z : ℕ). z * 2 ^ low f) (zero-mul (up e)) ∙ zero-mul (2 ^ low f) ∙ sym (zero-mul (down e));
}
grid-of f (fin false (suc m) (pos a)) h c =
    let A = eqb (suc m % 2) 1 in
    let B = ltb (suc m) (2 ^ prec f) in
    let C = leb 1 (2 ^ low f) in
    let D = ltb (suc m * 2 ^ a) (2 ^ suc (emax f) * 1) in
    record {
      a = suc m;
      j = a + low f;
      few = ltb→lt (suc m) (2 ^ prec f) (and_r A B (and_l (A && B) C (and_l (A && B && C) D h)));
      units_of = mul_assoc (suc m) (2 ^ a) (2 ^ low f) ∙ ap (λ (z : ℕ). suc m * z) (sym (pow-add 2 a (low f))) ∙ sym (mul-one (suc m * 2 ^ (a + low f)));
    }
grid-of f (fin false (suc m) (negsuc a)) h c =
    let A = eqb (suc m % 2) 1 in
    let B = ltb (suc m) (2 ^ prec f) in
    let C = leb (2 ^ suc a) (2 ^ low f) in
    let D = ltb (suc m * 1) (2 ^ suc (emax f) * 2 ^ suc a) in
    let l : suc a ≤ low f = pow_le_back (suc a) (low f) (leb→le (2 ^ suc a) (2 ^ low f) (and_r (A && B) C (and_l (A && B && C) D h))) in
    record {
      a = suc m;
      j = low f - suc a;
      few = ltb→lt (suc m) (2 ^ prec f) (and_r A B (and_l (A && B) C (and_l (A && B && C) D h)));
      units_of =
          ap (λ (z : ℕ). z * 2 ^ low f) (mul-one (suc m)) ∙ ap (λ (z : ℕ). suc m * z) (ap (λ (z : ℕ). 2 ^ z) (sym (back (low f) (suc a) l)) ∙ pow-add 2 (low f - suc a) (suc a))
          ∙ sym (mul_assoc (suc m) (2 ^ (low f - suc a)) (2 ^ suc a));
    }

-- ---- it is below 2 ^ (emax + 1)
pub below-limit : (f : Format) (x : Float) → T (fits f x) → T (counted x) → num x < 2 ^ suc (emax f) * den x
unfolding fits
below-limit f nan h c = absurd c
below-limit f (inf s) h c = absurd c
below-limit f (fin true m e) h c = absurd c
below-limit f (fin false zero e) h c = lt_of_le_of_lt (le_of_eq (zero-mul (up e))) (mul-pos (pow_pos (suc (emax f))) (down_pos e))
below-limit f (fin false (suc m) e) h c =
    ltb→lt (suc m * up e) (2 ^ suc (emax f) * down e) (and_r (eqb (suc m % 2) 1 && ltb (suc m) (2 ^ prec f) && leb (down e) (2 ^ low f)) (ltb (suc m * up e) (2 ^ suc (emax f) * down e)) h)

-- ---- the order, as one of fractions
lt-is : (y r : Float) → T (counted y) → T (counted r) → lt y r ≡ ltb (num y * den r) (num r * den y)
unfolding lt
lt-is nan r c d = absurd c
lt-is (inf s) r c d = absurd c
lt-is (fin true m e) r c d = absurd c
lt-is (fin false m e) nan c d = absurd d
lt-is (fin false m e) (inf t) c d = absurd d
lt-is (fin false m e) (fin true n k) c d = absurd d
lt-is (fin false m e) (fin false n k) c d = refl

pub lt→cross : (y r : Float) → T (counted y) → T (counted r) → T (lt y r) → num y * den r < num r * den y
lt→cross y r c d h = ltb→lt (num y * den r) (num r * den y) (subst T (lt-is y r c d) h)

pub cross→lt : (y r : Float) → T (counted y) → T (counted r) → num y * den r < num r * den y → T (lt y r)
cross→lt y r c d h = subst T (sym (lt-is y r c d)) (lt→ltb (num y * den r) (num r * den y) h)

-- ---- values of one fraction are the same
-- the pattern of n units
abbrev pub pattern : Format → ℕ → ℕ
pattern f n = 0 + (size n - prec f) * hid f + n / 2 ^ (size n - prec f)

pub bits_are : (f : Format) (r : Float) → T (counted r) → to_bits f r ≡ pattern f (num r * 2 ^ low f / den r)
unfolding to_bits
bits_are f nan c = absurd c
bits_are f (inf s) c = absurd c
bits_are f (fin true m e) c = absurd c
bits_are f (fin false m e) c = refl

pub same-value : (f : Format) (r s : Float) → T (fits f r) → T (fits f s) → T (counted r) → T (counted s) → num r * den s ≡ num s * den r → r ≡ s
same-value f r s F G c d e =
    sym (of_bits-to_bits f r F)
    ∙ ap (of_bits f)
    (bits_are f r c
    ∙ ap (pattern f) (div_same (num r * 2 ^ low f) (den r) (num s * 2 ^ low f) (den s) (den_pos r) (den_pos s) (mul_right_comm (num r) (2 ^ low f) (den s) ∙ ap (λ (z : ℕ). z * 2 ^ low f) e
    ∙ mul_right_comm (num s) (den r) (2 ^ low f)))
    ∙ sym (bits_are f s d))
    ∙ of_bits-to_bits f s G

-- ---- a value of the format is its own rounding
grid-limit : (f : Format) (x : Float) → T (fits f x) → T (counted x) → (g : Grid f x) → g.a * 2 ^ g.j < 2 ^ (low f + suc (emax f))
grid-limit f x F c g =
    lt_of_mul-lt-mul_right (den x)
    (lt_of_le_of_lt (le_of_eq (sym g.units_of))
    (lt_of_lt_of_le (mul-lt-mul_of_pos_right (below-limit f x F c) (pow_pos (low f)))
    (le_of_eq (mul_right_comm (2 ^ suc (emax f)) (den x) (2 ^ low f) ∙ ap (λ (z : ℕ). z * den x) (mul_comm (2 ^ suc (emax f)) (2 ^ low f) ∙ sym (pow-add 2 (low f) (suc (emax f))))))))

pub round-own : (f : Format) (x : Float) → T (fits f x) → T (counted x) → round f false (num x) (den x) ≡ x
round-own f x F c =
    let g = grid-of f x F c in
    let r = round f false (num x) (den x) in
    let v = round_exact f false (num x) (den x) g.a g.j (den_pos x) g.few (grid-limit f x F c g) g.units_of in
    same-value f r x (round-fits f false (num x) (den x)) F (counted-value r (num x) (den x) v) c (value→cross r (num x) (den x) v)
