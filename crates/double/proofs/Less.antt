-- The order of doubles, NaN included: `lt` is transitive, no number is below itself, and whatever is no NaN lies above the
-- lower or below the greater of two. Three finite numbers are compared on one scale. Assumes nothing.
use mathlib.Core.Path.{◌≡◌, refl, sym, ap, ap₂, ◌∙◌}
use mathlib.Core.Bool.{Bool, true, false, not, true≢false, false≢true}
use Prim.Native.Nat.{ℕ, ◌+◌, ◌*◌, ◌<◌}
use native.Mathlib.Omega.{arith}
use native.Mathlib.Nat.{mul-le-mul_right, mul-lt-mul_of_pos_right, mul_assoc, mul_comm, add-mul, zero-mul}
use borrow.Author.Tests.{lt-ltb, le-ltb, ltb-true, ltb-false, not-true, not-false}
use lib.Dec.{ltb}
use lib.IntN.{ℤ}
use lib.Ieee.{Float, nan, inf, fin, up, down, lt, below, is_nan}
use lib.Ieee.Fits.{down_pos}
use Rattle.double.proofs.Truth.{both_true}

-- ---- signed numbers

below-irreflexive : (s : Bool) (a : ℕ) → below s a s a ≡ false
below-irreflexive false a = le-ltb a a (omega arith)
below-irreflexive true a = le-ltb a a (omega arith)

below-trans : (s t u : Bool) (a b c : ℕ) → below s a t b ≡ true → below t b u c ≡ true → below s a u c ≡ true
below-trans false false false a b c p q = lt-ltb a c (omega (arith, ltb-true a b p, ltb-true b c q))
below-trans false false true a b c p q = absurd (false≢true q)
below-trans false true u a b c p q = absurd (false≢true p)
below-trans true false false a b c p q = lt-ltb 0 (a + c) (omega (arith, ltb-true b c q))
below-trans true false true a b c p q = absurd (false≢true q)
below-trans true true false a b c p q = lt-ltb 0 (a + c) (omega (arith, ltb-true b a p))
below-trans true true true a b c p q = lt-ltb c a (omega (arith, ltb-true b a p, ltb-true c b q))

-- what is not above the lower is below the greater
below-past : (s t u : Bool) (a b c : ℕ) → below s a u c ≡ true → below s a t b ≡ false → below t b u c ≡ true
below-past false false false a b c p q = lt-ltb b c (omega (arith, ltb-true a c p, ltb-false a b q))
below-past false false true a b c p q = absurd (false≢true p)
below-past false true false a b c p q = lt-ltb 0 (b + c) (omega (arith, ltb-true a c p))
below-past false true true a b c p q = absurd (false≢true p)
below-past true false false a b c p q = lt-ltb b c (omega (arith, ltb-true 0 (a + c) p, ltb-false 0 (a + b) q))
below-past true false true a b c p q = absurd (omega (arith, ltb-true c a p, ltb-false 0 (a + b) q))
below-past true true false a b c p q = lt-ltb 0 (b + c) (omega (arith, ltb-true 0 (a + c) p, ltb-false b a q))
below-past true true true a b c p q = lt-ltb c b (omega (arith, ltb-true c a p, ltb-false b a q))

-- ---- one scale

pub ltb-scale : (a b k : ℕ) → 0 < k → ltb (a * k) (b * k) ≡ ltb a b
ltb-scale a b k h = go (ltb a b) refl
  where
    go : (q : Bool) → ltb a b ≡ q → ltb (a * k) (b * k) ≡ q
    go true e = lt-ltb (a * k) (b * k) (mul-lt-mul_of_pos_right (ltb-true a b e) h)
    go false e = le-ltb (a * k) (b * k) (mul-le-mul_right k (ltb-false a b e))

below-scale : (s t : Bool) (a b k : ℕ) → 0 < k → below s (a * k) t (b * k) ≡ below s a t b
below-scale false false a b k h = ltb-scale a b k h
below-scale false true a b k h = refl
below-scale true false a b k h = ap (λ (x : ℕ). ltb 0 x) (sym (add-mul a b k)) ∙ ap (λ (x : ℕ). ltb x ((a + b) * k)) (sym (zero-mul k)) ∙ ltb-scale 0 (a + b) k h
below-scale true true a b k h = ltb-scale b a k h

-- of the numbers a / d and b / e, whose comparison goes crosswise, and a third denominator f
crosswise : (s t : Bool) (a b d e f x y : ℕ) → 0 < f → a * e * f ≡ x → b * d * f ≡ y → below s (a * e) t (b * d) ≡ below s x t y
crosswise s t a b d e f x y h p q = sym (below-scale s t (a * e) (b * d) f h) ∙ ap₂ (λ (v w : ℕ). below s v t w) p q

-- m × 2 ^ e times the denominators of two other numbers
on : ℕ → ℤ → ℤ → ℤ → ℕ
on m e d f = m * up e * (down d * down f)

on-swap : (m : ℕ) (e d f : ℤ) → on m e d f ≡ on m e f d
unfolding on
on-swap m e d f = ap (λ (x : ℕ). m * up e * x) (mul_comm (down d) (down f))

compared : (s t : Bool) (m n : ℕ) (e d f : ℤ) → lt (fin s m e) (fin t n d) ≡ below s (on m e d f) t (on n d e f)
unfolding lt on
compared s t m n e d f =
    crosswise s t (m * up e) (n * up d) (down e) (down d) (down f) _ _ (down_pos f)
    (mul_assoc (m * up e) (down d) (down f))
    (mul_assoc (n * up d) (down e) (down f))

-- ---- doubles

pub lt-irreflexive : (x : Float) → lt x x ≡ false
unfolding lt
lt-irreflexive nan = refl
lt-irreflexive (inf true) = refl
lt-irreflexive (inf false) = refl
lt-irreflexive (fin s m e) = below-irreflexive s (m * up e * down e)

-- neither side of a comparison that holds is a NaN
pub lt-numbers : (x y : Float) → lt x y ≡ true → (is_nan x ≡ false) × (is_nan y ≡ false)
unfolding lt is_nan
lt-numbers nan y h = absurd (false≢true h)
lt-numbers (inf s) nan h = absurd (false≢true h)
lt-numbers (inf s) (inf t) h = (refl, refl)
lt-numbers (inf s) (fin t n d) h = (refl, refl)
lt-numbers (fin s m e) nan h = absurd (false≢true h)
lt-numbers (fin s m e) (inf t) h = (refl, refl)
lt-numbers (fin s m e) (fin t n d) h = (refl, refl)

module _ (s t u : Bool) (m n k : ℕ) (e d f : ℤ) where
  first-third : lt (fin s m e) (fin u k f) ≡ below s (on m e d f) u (on k f e d)
  first-third = compared s u m k e f d ∙ ap (λ (x : ℕ). below s x u (on k f e d)) (on-swap m e f d)

  second-third : lt (fin t n d) (fin u k f) ≡ below t (on n d e f) u (on k f e d)
  second-third = compared t u n k d f e ∙ ap₂ (λ (x y : ℕ). below t x u y) (on-swap n d f e) (on-swap k f d e)

-- y, which is no NaN, is above the lower of two or below the greater
pub lt-past : (x y z : Float) → lt x z ≡ true → is_nan y ≡ false → lt x y ≡ false → lt y z ≡ true
unfolding lt is_nan
lt-past nan y z p i q = absurd (false≢true p)
lt-past (inf s) nan z p i q = absurd (true≢false i)
lt-past (inf s) (inf t) nan p i q = absurd (false≢true p)
lt-past (inf s) (inf t) (inf u) p i q = let w = both_true s (not u) p in let v = rw w.0 at q in rw (not-false t v) w.1
lt-past (inf s) (inf t) (fin u k f) p i q = let v = rw p at q in not-false t v
lt-past (inf s) (fin t n d) nan p i q = absurd (false≢true p)
lt-past (inf s) (fin t n d) (inf u) p i q = absurd (true≢false (sym (both_true s (not u) p).0 ∙ q))
lt-past (inf s) (fin t n d) (fin u k f) p i q = absurd (true≢false (sym p ∙ q))
lt-past (fin s m e) nan z p i q = absurd (true≢false i)
lt-past (fin s m e) (inf t) nan p i q = absurd (false≢true p)
lt-past (fin s m e) (inf t) (inf u) p i q = rw (not-false t q) p
lt-past (fin s m e) (inf t) (fin u k f) p i q = not-false t q
lt-past (fin s m e) (fin t n d) nan p i q = absurd (false≢true p)
lt-past (fin s m e) (fin t n d) (inf u) p i q = p
lt-past (fin s m e) (fin t n d) (fin u k f) p i q =
    second-third s t u m n k e d f
    ∙ below-past s t u (on m e d f) (on n d e f) (on k f e d) (sym (first-third s t u m n k e d f) ∙ p) (sym (compared s t m n e d f) ∙ q)

pub lt_trans : (x y z : Float) → lt x y ≡ true → lt y z ≡ true → lt x z ≡ true
unfolding lt
lt_trans nan y z p q = absurd (false≢true p)
lt_trans (inf s) nan z p q = absurd (false≢true p)
lt_trans (inf s) (inf t) nan p q = absurd (false≢true q)
lt_trans (inf s) (inf t) (inf u) p q = rw (both_true s (not t) p).0 (both_true t (not u) q).1
lt_trans (inf s) (inf t) (fin u k f) p q = (both_true s (not t) p).0
lt_trans (inf s) (fin t n d) nan p q = absurd (false≢true q)
lt_trans (inf s) (fin t n d) (inf u) p q = rw p q
lt_trans (inf s) (fin t n d) (fin u k f) p q = p
lt_trans (fin s m e) nan z p q = absurd (false≢true p)
lt_trans (fin s m e) (inf t) nan p q = absurd (false≢true q)
lt_trans (fin s m e) (inf t) (inf u) p q = (both_true t (not u) q).1
lt_trans (fin s m e) (inf t) (fin u k f) p q = absurd (false≢true (sym (not-true t p) ∙ q))
lt_trans (fin s m e) (fin t n d) nan p q = absurd (false≢true q)
lt_trans (fin s m e) (fin t n d) (inf u) p q = q
lt_trans (fin s m e) (fin t n d) (fin u k f) p q =
    first-third s t u m n k e d f
    ∙ below-trans s t u (on m e d f) (on n d e f) (on k f e d) (sym (compared s t m n e d f) ∙ p) (sym (second-third s t u m n k e d f) ∙ q)

-- so not both ways
pub lt-asymmetric : (x y : Float) → lt x y ≡ true → lt y x ≡ false
lt-asymmetric x y h = go (lt y x) refl
  where
    go : (r : Bool) → lt y x ≡ r → r ≡ false
    go true e = sym (lt_trans x y x h e) ∙ lt-irreflexive x
    go false e = refl
