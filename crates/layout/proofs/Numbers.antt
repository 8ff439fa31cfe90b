-- Numbers and doubles as bytes, and back. Assumes nothing.
use Prim.Native.Nat.{ℕ, zero, suc, ◌+◌, ◌*◌, ◌/◌, ◌%◌, ◌^◌, ◌≤◌, ◌<◌}
use mathlib.Core.Path.{◌≡◌, refl, sym, ap, ap₂, ◌∙◌}
use mathlib.Core.List.{List, ◌∷◌}
use mathlib.Core.Bool.{not}
use native.Mathlib.Omega.{arith}
use native.Mathlib.Nat.{pow-suc}
use native.Mathlib.Numerals.{add-one}
use lib.ListN.{length, get_or, take}
use lib.Seq.{drop-cons}
use lib.Dec.{T}
use mir.Syntax.{w64}
use Rattle.std.specs.Int.{to_le_bytes}
use lib.Ieee.{Float, binary64, of_bits, to_bits, fits, is_nan}
use lib.Ieee.Bits.{of_bits-to_bits, to_bits-of_bits, to_bits-lt}
use Rattle.field.specs.Buffer.{part}
use Rattle.layout.specs.Bytes.{AreBytes, bytes_of, number_at, u16_at, u32_at, double_bytes, double_at}

pub length-bytes : (k x : ℕ) → length (bytes_of k x) ≡ k
unfolding bytes_of
length-bytes zero x = refl
length-bytes (suc k) x = ap suc (length-bytes k (x / 256))

part-suc : (l : List ℕ) (p k : ℕ) → p < length l → part l p (suc k) ≡ get_or l p 0 ∷ part l (suc p) k
part-suc l p k h = ap (take (suc k)) (drop-cons l p 0 h)

-- the bytes of the number that stands at p
pub bytes-number : (k : ℕ) (l : List ℕ) (p : ℕ) → AreBytes l → p + k ≤ length l → bytes_of k (number_at k l p) ≡ part l p k
unfolding bytes_of number_at
bytes-number zero l p b h = refl
bytes-number (suc k) l p b h =
    let q = b p in
    let e : (get_or l p 0 + 256 * number_at k l (suc p)) % 256 ≡ get_or l p 0 = omega arith in
    let f : (get_or l p 0 + 256 * number_at k l (suc p)) / 256 ≡ number_at k l (suc p) = omega arith in
    ap₂ ◌∷◌ e (ap (bytes_of k) f ∙ bytes-number k l (suc p) b (omega arith)) ∙ sym (part-suc l p k (omega arith))

-- the number whose bytes stand at p
pub number-bytes : (k : ℕ) (l : List ℕ) (p x : ℕ) → p + k ≤ length l → part l p k ≡ bytes_of k x → x < 256 ^ k → number_at k l p ≡ x
unfolding bytes_of number_at
number-bytes zero l p x h e s = omega arith
number-bytes (suc k) l p x h e s =
    let f : (get_or l p 0 ∷ part l (suc p) k) ≡ x % 256 ∷ bytes_of k (x / 256) = sym (part-suc l p k (omega arith)) ∙ e in
    let a : get_or l p 0 ≡ x % 256 = cc in
    let b : part l (suc p) k ≡ bytes_of k (x / 256) = cc in
    let w : 256 ^ suc k ≡ 256 ^ k * 256 = pow-suc 256 k in
    let r : number_at k l (suc p) ≡ x / 256 = number-bytes k l (suc p) (x / 256) (omega arith) b (omega arith) in
    omega arith

pub number_lt : (k : ℕ) (l : List ℕ) (p : ℕ) → AreBytes l → number_at k l p < 256 ^ k
unfolding number_at
number_lt zero l p b = omega arith
number_lt (suc k) l p b =
    let q = b p in
    let w : 256 ^ suc k ≡ 256 ^ k * 256 = pow-suc 256 k in
    let r : number_at k l (suc p) < 256 ^ k = number_lt k l (suc p) b in
    omega arith

-- a number by its bytes
module _ (l : List ℕ) (p : ℕ) where
  abbrev byte : ℕ → ℕ
  byte i = get_or l (p + i) 0

  pub two-bytes : u16_at l p ≡ get_or l p 0 + 256 * byte 1
  unfolding number_at
  two-bytes = rw add-one (omega arith)

  pub four-bytes : u32_at l p ≡ get_or l p 0 + 256 * byte 1 + 256 ^ 2 * byte 2 + 256 ^ 3 * byte 3
  unfolding number_at
  four-bytes =
      let a : p + 2 ≡ suc (suc p) = omega arith in
      let b : p + 3 ≡ suc (suc (suc p)) = omega arith in
      rw (add-one, a, b) (omega arith)

  pub eight-bytes : number_at 8 l p ≡ get_or l p 0 + 256 * byte 1 + 256 ^ 2 * byte 2 + 256 ^ 3 * byte 3 + 256 ^ 4 * byte 4 + 256 ^ 5 * byte 5 + 256 ^ 6 * byte 6 + 256 ^ 7 * byte 7
  unfolding number_at
  eight-bytes =
      let a : p + 2 ≡ suc (suc p) = omega arith in
      let b : p + 3 ≡ suc (suc (suc p)) = omega arith in
      let d : p + 4 ≡ suc (suc (suc (suc p))) = omega arith in
      let e : p + 5 ≡ suc (suc (suc (suc (suc p)))) = omega arith in
      let f : p + 6 ≡ suc (suc (suc (suc (suc (suc p))))) = omega arith in
      let g : p + 7 ≡ suc (suc (suc (suc (suc (suc (suc p)))))) = omega arith in
      rw (add-one, a, b, d, e, f, g) (omega arith)

-- the lowest bytes of more of them
pub take-bytes : (n k x : ℕ) → n ≤ k → take n (bytes_of k x) ≡ bytes_of n x
unfolding bytes_of
take-bytes zero k x h = refl
take-bytes (suc n) zero x h = absurd (omega arith)
take-bytes (suc n) (suc k) x h = ap (λ t. x % 256 ∷ t) (take-bytes n k (x / 256) (omega arith))

pub word-bytes : (x : ℕ) → to_le_bytes w64 x ≡ bytes_of 8 x
unfolding bytes_of
word-bytes x =
    let a : x / 256 ^ 2 ≡ x / 256 / 256 = omega arith in
    let b : x / 256 ^ 3 ≡ x / 256 / 256 / 256 = omega arith in
    let d : x / 256 ^ 4 ≡ x / 256 / 256 / 256 / 256 = omega arith in
    let e : x / 256 ^ 5 ≡ x / 256 / 256 / 256 / 256 / 256 = omega arith in
    let f : x / 256 ^ 6 ≡ x / 256 / 256 / 256 / 256 / 256 / 256 = omega arith in
    let g : x / 256 ^ 7 ≡ x / 256 / 256 / 256 / 256 / 256 / 256 / 256 = omega arith in
    cc

-- ---- doubles

pub double-bytes : (l : List ℕ) (p : ℕ) (x : Float) → p + 8 ≤ length l → T (fits binary64 x) → part l p 8 ≡ double_bytes x → double_at l p ≡ x
double-bytes l p x h f e = ap (of_bits binary64) (number-bytes 8 l p (to_bits binary64 x) h e (to_bits-lt binary64 x f)) ∙ of_bits-to_bits binary64 x f

-- (a NaN's bytes are not kept)
pub bytes-double : (l : List ℕ) (p : ℕ) → AreBytes l → p + 8 ≤ length l → T (not (is_nan (double_at l p))) → double_bytes (double_at l p) ≡ part l p 8
bytes-double l p b h n = ap (bytes_of 8) (to_bits-of_bits binary64 (number_at 8 l p) (number_lt 8 l p b) n) ∙ bytes-number 8 l p b h
