-- For an x above zero `root` is the value of the format that is nearest to √x (`root-is-nearest`), and nothing else is (`root-unique`). Assumes nothing.
use mathlib.Core.Path.{◌≡◌, refl, sym, ap, ◌∙◌, subst}
use mathlib.Core.Logic.{◌⊎◌, inl, inr}
use Prim.Native.Nat.{ℕ, zero, suc, ◌+◌, ◌-◌, ◌*◌, ◌/◌, ◌^◌, ◌≤◌, ◌<◌}
use native.Mathlib.Nat.{le_trans, le_of_eq, le_of_lt, lt_of_lt_of_le, lt_of_le_of_lt, lt_of_not-le, not-le_of_lt, le_of_suc-le-suc, mul-one, mul_comm}
use native.Mathlib.Nat.{mul_assoc, mul_right_comm, mul-mul-mul_comm, mul-le-mul, mul-le-mul_left, mul-le-mul_right, mul-lt-mul_of_pos_right}
use native.Mathlib.Nat.{lt_of_mul-lt-mul_right, mul-pos, add-mul, two-mul, pow-succ', div-lt_iff_lt-mul, lt-suc_self, le_antisymm, add_comm}
use native.Mathlib.Omega.{arith}
use mathlib.Core.Bool.{true, false}
use lib.Dec.{T, ltb, lit<, lit≤}
use lib.Pow.{pow-add, pow_pos, pow_mono, pow-lt}
use lib.Ieee.{Float, nan, inf, fin, Format, binary32, binary64, prec, emax, low, up, down, size, lt, fits, odd, units}
use lib.Ieee.Fits.{nan-fits, down_pos, two, two-le_pos, odd-fits, cond-fits, inf-fits}
use lib.Ieee.Exact.{HasValue, units_val}
use lib.Ieee.Positive.{num, den, den_pos, positive, value→cross}
use Rattle.double.specs.Sums.{counted}
use Rattle.double.proofs.Grid.{counted-value, positive-counted, grid-of, below-limit, lt→cross, cross→lt, same-value}
use Rattle.sqrt.specs.Nearest.{NearestToRoot}
use Rattle.sqrt.specs.Root.{floor_root, nearest_root, root}
use Rattle.sqrt.proofs.Floor.{floor-between}
use Rattle.sqrt.proofs.Certificate.{nearest_root-is}
use Rattle.sqrt.proofs.Closest.{multiple, in_units, nearer, multiple-le, reaches}

-- ---- from units to fractions
module _ (L a c Q G R r Y y : ℕ) (P : 0 < L) (rp : 0 < r) (yp : 0 < y) (eR : R * L ≡ Q * r) (eY : Y * L ≡ G * y) where
  sum_is : (R * y + Y * r) * L ≡ (Q + G) * (r * y)
  sum_is =
      add-mul (R * y) (Y * r) L
      ∙ ap (λ (z : ℕ). z + Y * r * L) (mul_right_comm R y L ∙ ap (λ (z : ℕ). z * y) eR ∙ mul_assoc Q r y)
      ∙ ap (λ (z : ℕ). Q * (r * y) + z) (mul_right_comm Y r L ∙ ap (λ (z : ℕ). z * r) eY ∙ mul_assoc G y r ∙ ap (λ (z : ℕ). G * z) (mul_comm y r))
      ∙ sym (add-mul Q G (r * y))

  left_is : (R * y + Y * r) * (R * y + Y * r) * c * (L * L) ≡ (Q + G) * (Q + G) * c * (r * y * (r * y))
  left_is =
      let S = R * y + Y * r in
      mul_right_comm (S * S) c (L * L)
      ∙ ap (λ (z : ℕ). z * c) (sym (mul-mul-mul_comm S L S L) ∙ ap (λ (z : ℕ). z * z) sum_is ∙ mul-mul-mul_comm (Q + G) (r * y) (Q + G) (r * y))
      ∙ mul_right_comm ((Q + G) * (Q + G)) (r * y * (r * y)) c

  right_is : 4 * a * (r * y * (r * y)) * (L * L) ≡ 4 * (a * (L * L)) * (r * y * (r * y))
  right_is = mul_right_comm (4 * a) (r * y * (r * y)) (L * L) ∙ ap (λ (z : ℕ). z * (r * y * (r * y))) (mul_assoc 4 a (L * L))

  low-side : (Q + G) * (Q + G) * c < 4 * (a * (L * L)) → (R * y + Y * r) * (R * y + Y * r) * c < 4 * a * (r * y * (r * y))
  low-side h = lt_of_mul-lt-mul_right (L * L) (lt_of_le_of_lt (le_of_eq left_is) (lt_of_lt_of_le (mul-lt-mul_of_pos_right h (mul-pos (mul-pos rp yp) (mul-pos rp yp))) (le_of_eq (sym right_is))))

  high-side : 4 * (a * (L * L)) < (Q + G) * (Q + G) * c → 4 * a * (r * y * (r * y)) < (R * y + Y * r) * (R * y + Y * r) * c
  high-side h = lt_of_mul-lt-mul_right (L * L) (lt_of_le_of_lt (le_of_eq right_is) (lt_of_lt_of_le (mul-lt-mul_of_pos_right h (mul-pos (mul-pos rp yp) (mul-pos rp yp))) (le_of_eq (sym left_is))))

  left-value : R * y * L ≡ Q * (r * y)
  left-value = mul_right_comm R y L ∙ ap (λ (z : ℕ). z * y) eR ∙ mul_assoc Q r y

  right-value : Y * r * L ≡ G * (r * y)
  right-value = mul_right_comm Y r L ∙ ap (λ (z : ℕ). z * r) eY ∙ mul_assoc G y r ∙ ap (λ (z : ℕ). G * z) (mul_comm y r)

  less-units : Y * r < R * y → G < Q
  less-units h = lt_of_mul-lt-mul_right (r * y) (lt_of_le_of_lt (le_of_eq (sym right-value)) (lt_of_lt_of_le (mul-lt-mul_of_pos_right h P) (le_of_eq left-value)))

  more-units : R * y < Y * r → Q < G
  more-units h = lt_of_mul-lt-mul_right (r * y) (lt_of_le_of_lt (le_of_eq (sym left-value)) (lt_of_lt_of_le (mul-lt-mul_of_pos_right h P) (le_of_eq right-value)))

-- ---- the result does not overflow
room : (f : Format) → prec f < low f + suc (emax f)
room binary32 = lit< tt
room binary64 = lit< tt

two-more : (f : Format) → 2 ≤ suc (emax f)
two-more binary32 = lit≤ tt
two-more binary64 = lit≤ tt

square-of-sum : (a b : ℕ) → 2 ^ (a + b) * 2 ^ (a + b) ≡ 2 ^ b * (2 ^ a * 2 ^ a) * 2 ^ b
square-of-sum a b =
    ap (λ (z : ℕ). z * z) (pow-add 2 a b)
    ∙ mul-mul-mul_comm (2 ^ a) (2 ^ b) (2 ^ a) (2 ^ b)
    ∙ sym (mul_assoc (2 ^ a * 2 ^ a) (2 ^ b) (2 ^ b)) ∙ ap (λ (z : ℕ). z * 2 ^ b) (mul_comm (2 ^ a * 2 ^ a) (2 ^ b))

module _ (f : Format) (n c : ℕ) (C : 0 < c) (h : n < 2 ^ suc (emax f) * (2 ^ low f * 2 ^ low f) * c) where
  twice-whole : 2 * floor_root (n / c) < 2 ^ (low f + suc (emax f))
  twice-whole = lt_of_not-le (λ (g : 2 ^ (low f + suc (emax f)) ≤ 2 * floor_root (n / c)).
      no (2 ^ suc (emax f)) (2 ^ low f * 2 ^ low f) (floor_root (n / c)) (n / c) (2 ^ (low f + suc (emax f)) * 2 ^ (low f + suc (emax f)))
      (square-of-sum (low f) (suc (emax f))) (pow_mono (two-more f)) (floor-between (n / c)).0 ((div-lt_iff_lt-mul C).1 h)
      (le_trans (mul-le-mul g g) (le_of_eq (mul-mul-mul_comm 2 (floor_root (n / c)) 2 (floor_root (n / c))))))
    where
      no : (E M w N B : ℕ) → B ≡ E * M * E → 2 ^ 2 ≤ E → w * w ≤ N → N < E * M → B ≤ 4 * (w * w) → ⊥
      no E M w N B e g lo hi b =
          let t : E * M * 4 ≤ E * M * E = mul-le-mul_left (E * M) g in
          omega arith

  pub no_overflow : in_units f n c < 2 ^ (low f + suc (emax f))
  no_overflow = go (reaches (prec f) n c (two-le_pos (prec f) (two f)) C)
    where
      back_one : (p k : ℕ) → 0 < p → p + k ≡ suc (p - 1 + k)
      back_one p k h = omega arith

      go : (size (floor_root (n / c)) - prec f ≡ 0) ⊎ (2 ^ (prec f - 1 + (size (floor_root (n / c)) - prec f)) ≤ floor_root (n / c)) → in_units f n c < 2 ^ (low f + suc (emax f))
      go (inl z) = lt_of_le_of_lt (le_of_eq (ap (λ (k : ℕ). multiple f n c * 2 ^ k) z ∙ mul-one (multiple f n c))) (lt_of_le_of_lt (multiple-le f n c C) (pow-lt (room f)))
      go (inr b) =
          let k = size (floor_root (n / c)) - prec f in
          lt_of_le_of_lt (mul-le-mul_right (2 ^ k) (multiple-le f n c C))
          (lt_of_le_of_lt (le_of_eq (sym (pow-add 2 (prec f) k) ∙ ap (λ (z : ℕ). 2 ^ z) (back_one (prec f) k (two-le_pos (prec f) (two f))) ∙ pow-succ' 2 (prec f - 1 + k)))
          (lt_of_le_of_lt (mul-le-mul_left 2 b) twice-whole))

-- ---- `nearest_root` of a fraction below 2 ^ (emax + 1)
module _ (f : Format) (a c : ℕ) (C : 0 < c) (h : a < 2 ^ suc (emax f) * c) where
  abbrev square : ℕ
  square = a * 2 ^ (2 * low f)

  square-is : a * 2 ^ (2 * low f) ≡ a * (2 ^ low f * 2 ^ low f)
  square-is = ap (λ (z : ℕ). a * z) (ap (λ (z : ℕ). 2 ^ z) (two-mul (low f)) ∙ pow-add 2 (low f) (low f))

  below_top : a * 2 ^ (2 * low f) < 2 ^ suc (emax f) * (2 ^ low f * 2 ^ low f) * c
  below_top =
      lt_of_le_of_lt (le_of_eq square-is)
      (lt_of_lt_of_le (mul-lt-mul_of_pos_right h (mul-pos (pow_pos (low f)) (pow_pos (low f)))) (le_of_eq (mul_right_comm (2 ^ suc (emax f)) c (2 ^ low f * 2 ^ low f))))

  fine : in_units f (a * 2 ^ (2 * low f)) c < 2 ^ (low f + suc (emax f))
  fine = no_overflow f (a * 2 ^ (2 * low f)) c C below_top

  pub root-value : HasValue (nearest_root f a c) false (in_units f (a * 2 ^ (2 * low f)) c) (2 ^ low f)
  root-value =
      subst (λ (r : Float). HasValue r false (in_units f (a * 2 ^ (2 * low f)) c) (2 ^ low f)) (sym (nearest_root-is f a c))
      (units_val f false (multiple f (a * 2 ^ (2 * low f)) c) (size (floor_root (a * 2 ^ (2 * low f) / c)) - prec f) fine)

  pub root-fits-here : T (fits f (nearest_root f a c))
  unfolding units
  root-fits-here =
      let q = multiple f (a * 2 ^ (2 * low f)) c in
      let k = size (floor_root (a * 2 ^ (2 * low f) / c)) - prec f in
      let l : q ≤ 2 ^ prec f = multiple-le f (a * 2 ^ (2 * low f)) c C in
      subst (λ (r : Float). T (fits f r)) (sym (nearest_root-is f a c))
      (cond-fits f (ltb (q * 2 ^ k) (2 ^ (low f + suc (emax f)))) (odd (suc (prec f)) false q k (low f)) (inf false)
      (odd-fits f (suc (prec f)) false q k (lt_of_le_of_lt l (pow-lt (lt-suc_self (prec f)))) l fine) (inf-fits f false))

-- ---- the theorem
pub root-positive : (f : Format) (x : Float) → T (positive x) → root f x ≡ nearest_root f (num x) (den x)
unfolding root
root-positive f nan p = absurd p
root-positive f (inf s) p = absurd p
root-positive f (fin true m e) p = absurd p
root-positive f (fin false zero e) p = absurd p
root-positive f (fin false (suc m) e) p = refl

-- four times the root's square, in units
four-squares : (N D b j l : ℕ) → N * 2 ^ l ≡ b * 2 ^ j * D → 4 * (N * (2 ^ l * 2 ^ l)) ≡ b * 2 ^ (j + l + 2) * D
four-squares N D b j l g =
    let L = 2 ^ l in
    let B = b * 2 ^ (j + l) in
    ap (λ (z : ℕ). 4 * z)
    (sym (mul_assoc N L L)
    ∙ ap (λ (z : ℕ). z * L) g
    ∙ mul_right_comm (b * 2 ^ j) D L
    ∙ ap (λ (z : ℕ). z * D) (mul_assoc b (2 ^ j) L ∙ ap (λ (z : ℕ). b * z) (sym (pow-add 2 j l))))
    ∙ sym (mul_assoc 4 B D) ∙ ap (λ (z : ℕ). z * D) (mul_comm 4 B ∙ mul_assoc b (2 ^ (j + l)) 4 ∙ ap (λ (z : ℕ). b * z) (sym (pow-add 2 (j + l) 2)))

pub root-is-nearest : (f : Format) (x : Float) → T (fits f x) → T (positive x) → NearestToRoot f x (root f x)
root-is-nearest f x F p =
    let l = below-limit f x F (positive-counted x p) in
    let r = nearest_root f (num x) (den x) in
    let v = root-value f (num x) (den x) (den_pos x) l in
    let n = num x * 2 ^ (2 * low f) in
    let Q = in_units f n (den x) in
    let s : T (counted r) = counted-value r Q (2 ^ low f) v in
    let b = grid-of f x F (positive-counted x p) in
    let sq = square-is f (num x) (den x) (den_pos x) l in
    let e4 : 4 * n ≡ b.a * 2 ^ (b.j + low f + 2) * den x = ap (λ (z : ℕ). 4 * z) sq ∙ four-squares (num x) (den x) b.a b.j (low f) b.units_of in
    subst (λ (z : Float). NearestToRoot f x z) (sym (root-positive f x p))
    (record {
      held = root-fits-here f (num x) (den x) (den_pos x) l;
      sign = s;
      nearer-than = λ y G c.
          let g = grid-of f y G c in
          let u = nearer f n (den x) g.a g.j b.a (b.j + low f + 2) (den_pos x) g.few b.few (some (b.j + low f)) e4 in
          let e = value→cross r Q (2 ^ low f) v in
          record {
            below = λ h. low-side (2 ^ low f) (num x) (den x) Q (g.a * 2 ^ g.j) (num r) (den r) (num y) (den y) (pow_pos (low f)) (den_pos r) (den_pos y) e g.units_of
                (lt_of_lt_of_le
                (u.below
                (less-units (2 ^ low f) (num x) (den x) Q (g.a * 2 ^ g.j) (num r) (den r) (num y) (den y) (pow_pos (low f)) (den_pos r) (den_pos y) e g.units_of (lt→cross y r c s h)))
                (le_of_eq (ap (λ (z : ℕ). 4 * z) sq)));
            above = λ h. high-side (2 ^ low f) (num x) (den x) Q (g.a * 2 ^ g.j) (num r) (den r) (num y) (den y) (pow_pos (low f)) (den_pos r) (den_pos y) e g.units_of
                (lt_of_le_of_lt (le_of_eq (ap (λ (z : ℕ). 4 * z) (sym sq)))
                (u.above
                (more-units (2 ^ low f) (num x) (den x) Q (g.a * 2 ^ g.j) (num r) (den r) (num y) (den y) (pow_pos (low f)) (den_pos r) (den_pos y) e g.units_of (lt→cross r y s c h))));
          };
    })
  where
    some : (t : ℕ) → 0 < t + 2
    some t = omega arith

-- ---- nothing else is so
-- of two that are nearest, neither is below the other
not-both : (f : Format) (x r s : Float) → NearestToRoot f x r → NearestToRoot f x s → T (lt r s) → ⊥
not-both f x r s R S l =
    let a = (R.nearer-than s S.held S.sign).above l in
    let b = (S.nearer-than r R.held R.sign).below l in
    not-le_of_lt a
    (le_trans (le_of_eq (ap (λ (z : ℕ). z * z * den x) (add_comm (num r * den s) (num s * den r))))
    (le_trans (le_of_lt b) (le_of_eq (ap (λ (z : ℕ). 4 * num x * (z * z)) (mul_comm (den s) (den r))))))

pub root-unique : (f : Format) (x r : Float) → T (fits f x) → T (positive x) → NearestToRoot f x r → r ≡ root f x
root-unique f x r F p R =
    let s = root f x in
    let S = root-is-nearest f x F p in
    same-value f r s R.held S.held R.sign S.sign
    (le_antisymm
    (le_of_suc-le-suc (lt_of_not-le (λ (h : num s * den r < num r * den s). not-both f x s r S R (cross→lt s r S.sign R.sign h))))
    (le_of_suc-le-suc (lt_of_not-le (λ (h : num r * den s < num s * den r). not-both f x r s R S (cross→lt r s R.sign S.sign h)))))

-- ---- for every x of the format, the format holds the result
pub root-fits : (f : Format) (x : Float) → T (fits f x) → T (fits f (root f x))
unfolding root fits
root-fits f nan h = nan-fits f
root-fits f (inf true) h = nan-fits f
root-fits f (inf false) h = inf-fits f false
root-fits f (fin s zero e) h = h
root-fits f (fin true (suc m) e) h = nan-fits f
root-fits f (fin false (suc m) e) h = root-fits-here f (suc m * up e) (down e) (down_pos e) (below-limit f (fin false (suc m) e) h tt)
