-- Whole numbers up to 2 ^ prec are counted and compared without rounding. Assumes nothing.
use mathlib.Core.Path.{◌≡◌, sym, ap, ap₂, ◌∙◌}
use mathlib.Core.Bool.{true, false, true≢false}
use Prim.Native.Nat.{ℕ, suc, ◌+◌, ◌*◌, ◌^◌, ◌≤◌}
use native.Mathlib.Nat.{mul-one, one-mul, mul_assoc, mul-pos, mul_right_comm, zero-lt-suc, suc-mul}
use lib.Dec.{ltb}
use lib.IntN.{pos}
use lib.Ieee.{Float, nan, inf, fin, Format, prec, up, down, add, sum, lt, of_int}
use lib.Ieee.Back.{round_whole}
use lib.Ieee.Exact.{HasValue}
use lib.Ieee.Fits.{down_pos}
use lib.Ieee.Scale.{round_same}
use Rattle.double.proofs.Less.{ltb-scale}

-- two whole numbers compare as their values do
pub lt-whole : (x y : Float) (a b : ℕ) → HasValue x false a 1 → HasValue y false b 1 → lt x y ≡ ltb a b
unfolding lt
lt-whole nan y a b h k = absurd h
lt-whole (inf s) y a b h k = absurd h
lt-whole (fin s m e) nan a b h k = absurd k
lt-whole (fin s m e) (inf t) a b h k = absurd k
lt-whole (fin true m e) (fin t n d) a b h k = absurd (true≢false h.0)
lt-whole (fin false m e) (fin true n d) a b h k = absurd (true≢false k.0)
lt-whole (fin false m e) (fin false n d) a b h k =
    let x : m * up e * down d ≡ a * (down e * down d) = ap (λ (z : ℕ). z * down d) (sym (mul-one (m * up e)) ∙ h.1) ∙ mul_assoc a (down e) (down d) in
    let y : n * up d * down e ≡ b * (down e * down d) =
    ap (λ (z : ℕ). z * down e) (sym (mul-one (n * up d)) ∙ k.1) ∙ mul_right_comm b (down d) (down e) ∙ mul_assoc b (down e) (down d) in
    ap₂ ltb x y ∙ ltb-scale a b (down e * down d) (mul-pos (down_pos e) (down_pos d))

module _ (f : Format) where
  -- 1 added to a number of value k
  plus_one : (x : Float) (k : ℕ) → HasValue x false k 1 → add f x (fin false 1 (pos 0)) ≡ of_int f (pos (suc k))
  unfolding add sum of_int
  plus_one nan k h = absurd h
  plus_one (inf s) k h = absurd h
  plus_one (fin true m e) k h = absurd (true≢false h.0)
  plus_one (fin false m e) k h =
      round_same f false (m * up e * 1 + 1 * down e) (down e * 1) (suc k) 1 (mul-pos (down_pos e) (zero-lt-suc 0)) (zero-lt-suc 0)
      (mul-one (m * up e * 1 + 1 * down e)
      ∙ ap₂ ◌+◌ h.1 (one-mul (down e))
      ∙ sym (suc-mul k (down e))
      ∙ ap (λ (z : ℕ). suc k * z) (sym (mul-one (down e))))

  pub add-one-whole : (k : ℕ) → k ≤ 2 ^ prec f → add f (of_int f (pos k)) (fin false 1 (pos 0)) ≡ of_int f (pos (suc k))
  unfolding of_int
  add-one-whole k h = plus_one (of_int f (pos k)) k (round_whole f false k h)

  pub lt-of-whole : (k n : ℕ) (y : Float) → k ≤ 2 ^ prec f → HasValue y false n 1 → lt (of_int f (pos k)) y ≡ ltb k n
  unfolding of_int
  lt-of-whole k n y h v = lt-whole (of_int f (pos k)) y k n (round_whole f false k h) v
