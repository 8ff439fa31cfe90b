-- Laws of the digits: the last one is x % 10 or x % 16, and those before it are those of the quotient. Assumes nothing.
use mathlib.Core.Path.{◌≡◌, refl, ap, ◌∙◌}
use mathlib.Core.List.{List, [], ◌∷◌, ◌++◌}
use mathlib.Core.Bool.{Bool, true, false}
use Prim.Native.Nat.{ℕ, zero, suc, ◌+◌, ◌-◌, ◌*◌, ◌/◌, ◌%◌, ◌^◌, ◌≤◌, ◌<◌}
use native.Mathlib.Nat.{add-zero, add-suc, pow-suc}
use native.Mathlib.Omega.{arith}
use lib.Dec.{ltb}
use lib.ListN.{length, length-append}
use borrow.Author.Tests.{lt-ltb, le-ltb, ltb-false, ltb-true}
use Rattle.text.specs.Text.{digit, hex, digits, decimal}

-- more fuel than x makes no difference
digits-suc : (k : ℕ) (b : Bool) (x : ℕ) → ltb x 10 ≡ b → x ≤ k → digits (suc k) b x ≡ digits k b x
unfolding digits
digits-suc zero true x e h = refl
digits-suc zero false x e h = absurd (omega (arith, ltb-false x 10 e))
digits-suc (suc k) true x e h = refl
digits-suc (suc k) false x e h = ap (λ (t : List ℕ). t ++ (digit (x % 10) ∷ [])) (digits-suc k (ltb (x / 10) 10) (x / 10) refl (omega arith))

digits-add : (k x : ℕ) → digits (x + k) (ltb x 10) x ≡ decimal x
unfolding decimal
digits-add zero x = rw add-zero
digits-add (suc k) x = rw add-suc (digits-suc (x + k) (ltb x 10) x refl (omega arith) ∙ digits-add k x)

pub decimal-one : (x : ℕ) → x < 10 → decimal x ≡ digit x ∷ []
unfolding decimal digits
decimal-one zero h = refl
decimal-one (suc x) h = rw (lt-ltb (suc x) 10 h)

-- the digits before the last, with the fuel that is left
digits_last : (x : ℕ) → 10 ≤ suc x → decimal (suc x) ≡ digits x (ltb (suc x / 10) 10) (suc x / 10) ++ (digit (suc x % 10) ∷ [])
unfolding decimal digits
digits_last x h = rw (le-ltb (suc x) 10 h)

pub decimal-more : (x : ℕ) → 10 ≤ x → decimal x ≡ decimal (x / 10) ++ (digit (x % 10) ∷ [])
decimal-more zero h = absurd (omega arith)
decimal-more (suc x) h =
    let e : suc x / 10 + (x - suc x / 10) ≡ x = omega arith in
    digits_last x h ∙ ap (λ (t : List ℕ). t ++ (digit (suc x % 10) ∷ [])) (rw e at (digits-add (x - suc x / 10) (suc x / 10)))

-- a number below 10 ^ (k + 1) has at most k + 1 digits
decimal-below : (k x : ℕ) → x < 10 ^ suc k → (b : Bool) → ltb x 10 ≡ b → length (decimal x) ≤ suc k
decimal-below zero x h true e = rw (decimal-one x (ltb-true x 10 e)) (omega arith)
decimal-below zero x h false e = absurd (omega (arith, ltb-false x 10 e))
decimal-below (suc k) x h true e = rw (decimal-one x (ltb-true x 10 e)) (omega arith)
decimal-below (suc k) x h false e =
    let p : 10 ^ suc (suc k) ≡ 10 ^ suc k * 10 = pow-suc 10 (suc k) in
    let l : x / 10 < 10 ^ suc k = omega arith in
    let r : length (decimal (x / 10)) ≤ suc k = decimal-below k (x / 10) l (ltb (x / 10) 10) refl in
    rw (decimal-more x (ltb-false x 10 e), length-append) (omega arith)

pub length-decimal : (x : ℕ) → x < 2 ^ 64 → length (decimal x) ≤ 20
length-decimal x h = decimal-below 19 x (omega arith) (ltb x 10) refl

pub hex-more : (k x : ℕ) → 1 ≤ k → hex (k - 1) (x / 16) ++ (digit (x % 16) ∷ []) ≡ hex k x
unfolding hex
hex-more zero x h = absurd (omega arith)
hex-more (suc k) x h = let e : suc k - 1 ≡ k = omega arith in rw e

pub length-hex : (k x : ℕ) → length (hex k x) ≡ k
unfolding hex
length-hex zero x = refl
length-hex (suc k) x = rw length-append (omega (arith, length-hex k (x / 16)))
