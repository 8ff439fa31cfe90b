-- What a finite result says of the operands, what a running sum keeps, and numbers that are neither NaN nor of negative sign. Assumes nothing.
use mathlib.Core.Path.{◌≡◌, refl, sym, ap, ◌∙◌}
use mathlib.Core.Bool.{Bool, true, false, not, cond, true≢false, false≢true}
use Prim.Native.Nat.{ℕ, zero, suc, ◌+◌, ◌*◌, ◌^◌, ◌<◌}
use native.Mathlib.Omega.{arith}
use native.Mathlib.Nat.{le_refl, mul-pos, sub_self, zero-mul}
use borrow.Author.Tests.{le-ltb}
use lib.Dec.{eqb, ltb}
use lib.Ieee.{Float, nan, inf, fin, Format, binary64, of_bits, prec, low, emax, unlike, up, down, neg, sum, add, sub, mul, round, units, odd, is_nan}
use lib.Ieee.Scale.{finite, round_same}
use lib.Ieee.Fits.{round_is, down_pos}
use Rattle.double.specs.Sums.{total, unsigned}

-- ---- a sum, a difference or a product is finite only if each operand is

-- an operation whose result is finite only where both operands are
abbrev pub Strict : (Float → Float → Float) → Type 0
Strict op = (x y : Float) → finite (op x y) ≡ true → (finite x ≡ true) × (finite y ≡ true)

pub finite-add : (f : Format) → Strict (add f)
unfolding add
finite-add f nan y e = absurd (false≢true e)
finite-add f (inf s) nan e = absurd (false≢true e)
finite-add f (inf true) (inf true) e = absurd (false≢true e)
finite-add f (inf true) (inf false) e = absurd (false≢true e)
finite-add f (inf false) (inf true) e = absurd (false≢true e)
finite-add f (inf false) (inf false) e = absurd (false≢true e)
finite-add f (inf s) (fin t n d) e = absurd (false≢true e)
finite-add f (fin s m k) nan e = absurd (false≢true e)
finite-add f (fin s m k) (inf t) e = absurd (false≢true e)
finite-add f (fin s m k) (fin t n d) e = (refl, refl)

finite-neg : (x : Float) → finite (neg x) ≡ finite x
unfolding neg
finite-neg nan = refl
finite-neg (inf s) = refl
finite-neg (fin s m e) = refl

pub finite-sub : (f : Format) → Strict (sub f)
unfolding sub
finite-sub f x y e = let h = finite-add f x (neg y) e in (h.0, sym (finite-neg y) ∙ h.1)

-- neither a NaN nor an infinity is finite
wild-cond : (b : Bool) (s : Bool) → finite (cond b nan (inf s)) ≡ true → ⊥
wild-cond true s e = false≢true e
wild-cond false s e = false≢true e

pub finite-mul : (f : Format) → Strict (mul f)
unfolding mul
finite-mul f nan y e = absurd (false≢true e)
finite-mul f (inf s) nan e = absurd (false≢true e)
finite-mul f (inf s) (inf t) e = absurd (false≢true e)
finite-mul f (inf s) (fin t n d) e = absurd (wild-cond (eqb n 0) (unlike s t) e)
finite-mul f (fin s m k) nan e = absurd (false≢true e)
finite-mul f (fin s m k) (inf t) e = absurd (wild-cond (eqb m 0) (unlike s t) e)
finite-mul f (fin s m k) (fin t n d) e = (refl, refl)

-- ---- what an addition keeps, a running sum keeps
pub total-keeps : (P : Float → Bool) (f : Format) (g : ℕ → Float) (z : Float) (n : ℕ) → ((x y : Float) → P x ≡ true → P y ≡ true → P (add f x y) ≡ true)
    → P z ≡ true → ((k : ℕ) → k < n → P (g k) ≡ true) → P (total f g z n) ≡ true
unfolding total
total-keeps P f g z zero s h k = h
total-keeps P f g z (suc n) s h k = s (total f g z n) (g n) (total-keeps P f g z n s h (λ j l. k j (omega arith))) (k n (omega arith))

-- ---- sums of numbers that are neither NaN nor of negative sign

pub finite-no-nan : (x : Float) → finite x ≡ true → is_nan x ≡ false
unfolding is_nan
finite-no-nan nan e = absurd (false≢true e)
finite-no-nan (inf s) e = refl
finite-no-nan (fin s m k) e = refl

pub unsigned-no-nan : (x : Float) → unsigned x ≡ true → is_nan x ≡ false
unfolding is_nan
unsigned-no-nan nan e = absurd (false≢true e)
unsigned-no-nan (inf s) e = refl
unsigned-no-nan (fin s m k) e = refl

unsigned-odd : (d q k l : ℕ) → unsigned (odd d false q k l) ≡ true
unfolding odd
unsigned-odd d zero k l = refl
unsigned-odd d (suc q) k l = refl

pub unsigned-units : (f : Format) (q k : ℕ) → unsigned (units f false q k) ≡ true
unfolding units
unsigned-units f q k = go (ltb (q * 2 ^ k) (2 ^ (low f + suc (emax f))))
  where
    go : (b : Bool) → unsigned (cond b (odd (suc (prec f)) false q k (low f)) (inf false)) ≡ true
    go true = unsigned-odd (suc (prec f)) q k (low f)
    go false = refl

pub unsigned-round : (f : Format) (a c : ℕ) → unsigned (round f false a c) ≡ true
unsigned-round f a c = ap unsigned (round_is f false a c) ∙ unsigned-units f _ _

pub unsigned-add : (f : Format) (x y : Float) → unsigned x ≡ true → unsigned y ≡ true → unsigned (add f x y) ≡ true
unfolding add sum
unsigned-add f nan y h k = absurd (false≢true h)
unsigned-add f (inf true) y h k = absurd (false≢true h)
unsigned-add f (inf false) nan h k = absurd (false≢true k)
unsigned-add f (inf false) (inf true) h k = absurd (false≢true k)
unsigned-add f (inf false) (inf false) h k = refl
unsigned-add f (inf false) (fin t n d) h k = refl
unsigned-add f (fin true m e) y h k = absurd (false≢true h)
unsigned-add f (fin false m e) nan h k = absurd (false≢true k)
unsigned-add f (fin false m e) (inf true) h k = absurd (false≢true k)
unsigned-add f (fin false m e) (inf false) h k = refl
unsigned-add f (fin false m e) (fin true n d) h k = absurd (false≢true k)
unsigned-add f (fin false m e) (fin false n d) h k = unsigned-round f (m * up e * down d + n * up d * down e) (down e * down d)

-- a square is a NaN only if the number is
pub unsigned-square : (f : Format) (x : Float) → is_nan x ≡ false → unsigned (mul f x x) ≡ true
unfolding mul is_nan
unsigned-square f nan h = absurd (true≢false h)
unsigned-square f (inf true) h = refl
unsigned-square f (inf false) h = refl
unsigned-square f (fin true m e) h = unsigned-round f (m * up e * (m * up e)) (down e * down e)
unsigned-square f (fin false m e) h = unsigned-round f (m * up e * (m * up e)) (down e * down e)

-- ---- a number less itself

nothing : (c : ℕ) → 0 < c → round binary64 false 0 c ≡ round binary64 false 0 1
nothing c h = round_same binary64 false 0 c 0 1 h (omega arith) (omega (arith, zero-mul c))

-- ±a / c ∓ a / c
none : (s : Bool) (a c : ℕ) → 0 < c → sum binary64 s a (not s) a c ≡ round binary64 false 0 1
unfolding sum
none true a c h = rw (le-ltb a a (le_refl a), sub_self a) (nothing c h)
none false a c h = rw (le-ltb a a (le_refl a), sub_self a) (nothing c h)

-- zero where it is finite, else NaN
pub less-itself : (x : Float) → sub binary64 x x ≡ cond (finite x) (of_bits binary64 0) nan
unfolding sub neg add of_bits round
less-itself nan = refl
less-itself (inf true) = refl
less-itself (inf false) = refl
less-itself (fin s m e) = rw (none s (m * up e * down e) (down e * down e) (mul-pos (down_pos e) (down_pos e))) refl
