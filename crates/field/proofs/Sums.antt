-- Laws of sums of whole numbers, and of how many have a property. Assumes nothing.
use mathlib.Core.Path.{◌≡◌, refl, sym, ap, ap₂, ◌∙◌}
use mathlib.Core.Logic.{⊎_elim}
use mathlib.Core.Bool.{Bool, true, false}
use Prim.Native.Nat.{ℕ, zero, suc, ◌+◌, ◌*◌, ◌≤◌, ◌<◌}
use native.Mathlib.Nat.{add-zero, add-suc, mul-zero, mul-suc, zero-mul, eq-or-lt_of_le, le_of_suc-le-suc}
use native.Mathlib.Numerals.{add-one}
use native.Mathlib.Omega.{arith}
use borrow.Author.Tests.{eq-eqb, ne_eqb}
use lib.Dec.{eqb}
use Rattle.std.specs.Int.{from_bool}
use Rattle.field.specs.Count.{sum_below, count_below}

pub sum-none : (g : ℕ → ℕ) → sum_below g 0 ≡ 0
unfolding sum_below
sum-none g = refl

pub sum-suc : (g : ℕ → ℕ) (k : ℕ) → sum_below g (suc k) ≡ sum_below g k + g k
unfolding sum_below
sum-suc g k = refl

pub sum-ext : (g h : ℕ → ℕ) (k : ℕ) → ((i : ℕ) → i < k → g i ≡ h i) → sum_below g k ≡ sum_below h k
unfolding sum_below
sum-ext g h zero e = refl
sum-ext g h (suc k) e = ap₂ ◌+◌ (sum-ext g h k (λ i l. e i (omega arith))) (e k (omega arith))

-- the first n, then k more
pub sum-split : (g : ℕ → ℕ) (n k : ℕ) → sum_below g (n + k) ≡ sum_below g n + sum_below (λ i. g (n + i)) k
unfolding sum_below
sum-split g n zero = rw (add-zero n) (sym (add-zero (sum_below g n)))
sum-split g n (suc k) = rw (add-suc n k) (let e = sum-split g n k in omega arith)

pub sum_same : (a k : ℕ) → sum_below (λ i. a) k ≡ a * k
unfolding sum_below
sum_same a zero = sym (mul-zero a)
sum_same a (suc k) = ap (λ (x : ℕ). x + a) (sum_same a k) ∙ sym (mul-suc a k)

pub sum_zeros : (k : ℕ) → sum_below (λ i. 0) k ≡ 0
sum_zeros k = sum_same 0 k ∙ zero-mul k

pub sum-add : (g h : ℕ → ℕ) (k : ℕ) → sum_below (λ i. g i + h i) k ≡ sum_below g k + sum_below h k
unfolding sum_below
sum-add g h zero = refl
sum-add g h (suc k) = let e = sum-add g h k in omega arith

-- the order of two sums does not matter
pub sum-swap : (f : ℕ → ℕ → ℕ) (n k : ℕ) → sum_below (λ i. sum_below (f i) k) n ≡ sum_below (λ j. sum_below (λ i. f i j) n) k
unfolding sum_below
sum-swap f zero k = sym (sum_zeros k)
sum-swap f (suc n) k = ap (λ (x : ℕ). x + sum_below (f n) k) (sum-swap f n k) ∙ sym (sum-add (λ j. sum_below (λ i. f i j) n) (f n) k)

pub sum_bound : (g : ℕ → ℕ) (a k : ℕ) → ((i : ℕ) → g i ≤ a) → sum_below g k ≤ a * k
unfolding sum_below
sum_bound g a zero h = omega arith
sum_bound g a (suc k) h = let e = sum_bound g a k h in omega (arith, h k, mul-suc a k)

-- n numbers of at most 1 that add up to n are each 1
pub sum-full : (g : ℕ → ℕ) (n : ℕ) → ((i : ℕ) → g i ≤ 1) → sum_below g n ≡ n → (i : ℕ) → i < n → g i ≡ 1
unfolding sum_below
sum-full g zero h e i l = absurd (omega arith)
sum-full g (suc n) h e i l =
    let a = sum_bound g 1 n h in
    let b = h n in
    ⊎_elim
    (λ (q : i ≡ n). rw q (let f : g n ≡ 1 = omega arith in f))
    (λ (k : i < n). sum-full g n h (omega arith) i k)
    (eq-or-lt_of_le (le_of_suc-le-suc l))

-- ---- how many

pub from_bool-most : (b : Bool) → from_bool b ≤ 1
from_bool-most true = omega arith
from_bool-most false = omega arith

pub count_none : (p : ℕ → Bool) → count_below p 0 ≡ 0
unfolding count_below
count_none p = sum-none (λ i. from_bool (p i))

pub count-more : (p : ℕ → Bool) (i k c : ℕ) → k ≡ count_below p i → c ≡ from_bool (p i) → k + c ≡ count_below p (i + 1)
unfolding count_below
count-more p i k c e f = rw (add-one, sum-suc, e, f)

pub count-grows : (p : ℕ → Bool) (i k : ℕ) → i ≤ k → count_below p i ≤ count_below p k
unfolding count_below sum_below
count-grows p i zero h = let e : i ≡ 0 = omega arith in rw e (omega arith)
count-grows p i (suc k) h =
    ⊎_elim
    (λ (q : i ≡ suc k). rw q (omega arith))
    (λ (l : i < suc k). let a = count-grows p i k (omega arith) in omega arith)
    (eq-or-lt_of_le h)

pub count-ext : (p q : ℕ → Bool) (k : ℕ) → ((i : ℕ) → i < k → p i ≡ q i) → count_below p k ≡ count_below q k
unfolding count_below
count-ext p q k e = sum-ext (λ i. from_bool (p i)) (λ i. from_bool (q i)) k (λ i l. ap from_bool (e i l))

-- one of 0, .. n - 1 is a
none_before : (a n : ℕ) → n ≤ a → sum_below (λ i. from_bool (eqb a i)) n ≡ 0
unfolding sum_below
none_before a zero h = refl
none_before a (suc n) h = rw (none_before a n (omega arith), ne_eqb a n (λ (e : a ≡ n). omega arith))

pub sum_one : (a n : ℕ) → a < n → sum_below (λ i. from_bool (eqb a i)) n ≡ 1
unfolding sum_below
sum_one a zero h = absurd (omega arith)
sum_one a (suc n) h =
    ⊎_elim
    (λ (e : a ≡ n). rw (eq-eqb a n e, none_before a n (omega arith)))
    (λ (l : a < n). rw (sum_one a n l, ne_eqb a n (λ (e : a ≡ n). omega arith)))
    (eq-or-lt_of_le (le_of_suc-le-suc h))
