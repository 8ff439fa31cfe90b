-- The rows and points of an image, read where they stand: what 4, 5 and 7 say there is what they say of the lists that are read. Assumes nothing.
use Rattle.std.proofs.Math.Bool.{and_assoc, or_assoc}
use Rattle.std.proofs.Common.{None, Option, Some}
use Prim.Native.Nat.{ℕ, ◌+◌, ◌*◌, ◌/◌, ◌%◌, ◌^◌, ◌<◌, ◌≤◌}
use mathlib.Core.Path.{◌≡◌, refl, sym, ap, ap₂, ◌∙◌}
use mathlib.Core.List.{List, [], ◌∷◌}
use mathlib.Core.Bool.{Bool, true, false, cond, not, ◌&&◌, ◌||◌}
use native.Mathlib.Omega.{arith}
use native.Mathlib.Nat.{add-zero}
use lib.ListN.{length, get_or}
use mir.Syntax.{w64}
use mir.Val.{Fits}
use lib.Dec.{eqb, ltb, leb}
use lib.Ieee.{Float, nan, inf, fin, lt}
use lib.Ieee.Scale.{finite}
use Rattle.std.specs.Option.{is_some}
use Rattle.double.specs.declared.Decoded.{Decoded}
use Rattle.double.specs.declared.Decoded.TheVariants.{Finite, Infinite, NotANumber}
use Rattle.double.specs.Double.{sorted, decoded}
use Rattle.field.specs.declared.Vec3.{Vec3}
use Rattle.field.specs.Vec.{null, is_finite}
use Rattle.field.specs.Buffer.{get, vector}
use Rattle.field.specs.Count.{lowest}
use Rattle.field.proofs.Counting.{get_or-field, length-field}
use Rattle.field.proofs.Buffers.{get-vector}
use Rattle.network.specs.declared.Shape.{Shape}
use Rattle.network.specs.Network.{rows}
use Rattle.network.specs.Refusals.{strays, loops, bad_weight, bad_scale, bad_vector, bad_row}
use Rattle.network.proofs.Sections.{found_below}
use Rattle.layout.specs.Bytes.{number_at, u32_at, double_at}
use Rattle.image.specs.Reading.{spread, wholes_from, doubles_from, ends_from, points_from}
use Rattle.image.specs.inner.Sound.{bad_row_from, finite_at}

-- ---- what 64 bits stand for: x is what was decoded of those at p

sorted-finite : (x y : Float) → sorted x ≡ Finite y → (x ≡ y) × (finite x ≡ true)
sorted-finite nan y e = absurd (let z : ◌≡◌ {A = ℕ} 0 1 = cc in omega arith)
sorted-finite (inf s) y e = absurd (let z : ◌≡◌ {A = ℕ} 0 1 = cc in omega arith)
sorted-finite (fin s m k) y e = let f : fin s m k ≡ y = cc in (f, refl)

sorted-infinite : (x : Float) (s : Bool) → sorted x ≡ Infinite s → finite x ≡ false
sorted-infinite nan s e = refl
sorted-infinite (inf t) s e = refl
sorted-infinite (fin t m k) s e = absurd (let z : ◌≡◌ {A = ℕ} 0 1 = cc in omega arith)

sorted-nan : (x : Float) → sorted x ≡ NotANumber → finite x ≡ false
sorted-nan nan e = refl
sorted-nan (inf t) e = refl
sorted-nan (fin t m k) e = absurd (let z : ◌≡◌ {A = ℕ} 0 1 = cc in omega arith)

module _ (l : List ℕ) (p : ℕ) {x : Decoded} {b : ℕ} (e : x ≡ decoded b) (k : b ≡ number_at 8 l p) where
  same : sorted (double_at l p) ≡ x
  unfolding decoded
  same = rw (e, k)

  pub finite-there : (y : Float) → x ≡ Finite y → Some y ≡ finite_at l p
  finite-there y h = let f = sorted-finite (double_at l p) y (same ∙ h) in rw (f.1, f.0)

  pub infinite-none : (s : Bool) → x ≡ Infinite s → None ≡ finite_at l p
  infinite-none s h = rw (sorted-infinite (double_at l p) s (same ∙ h))

  pub nan-none : x ≡ NotANumber → None ≡ finite_at l p
  nan-none h = rw (sorted-nan (double_at l p) (same ∙ h))

-- of a finite number, and of another
module _ (l : List ℕ) (p : ℕ) {x : Option Float} (e : x ≡ finite_at l p) where
  there : (y : Float) → x ≡ Some y → (finite (double_at l p) ≡ true) × (double_at l p ≡ y)
  there y h = go (finite (double_at l p)) refl (sym e ∙ h)
    where
      go : (b : Bool) → finite (double_at l p) ≡ b → cond b (Some (double_at l p)) None ≡ Some y → (finite (double_at l p) ≡ true) × (double_at l p ≡ y)
      go true q f = (q, cc)
      go false q f = absurd (let z : ◌≡◌ {A = ℕ} 0 1 = cc in omega arith)

  not-there : x ≡ None → finite (double_at l p) ≡ false
  not-there h = go (finite (double_at l p)) refl (sym e ∙ h)
    where
      go : (b : Bool) → finite (double_at l p) ≡ b → cond b (Some (double_at l p)) None ≡ None → finite (double_at l p) ≡ false
      go true q f = absurd (let z : ◌≡◌ {A = ℕ} 0 1 = cc in omega arith)
      go false q f = q

  pub weight-some : (y : Float) → x ≡ Some y → lt y null ≡ bad_weight (double_at l p ∷ []) 0
  unfolding bad_weight
  weight-some y h = let d = there y h in rw (d.0, d.1)

  pub weight-none : x ≡ None → true ≡ bad_weight (double_at l p ∷ []) 0
  unfolding bad_weight
  weight-none h = rw (not-there h)

  pub scale-some : (y : Float) → x ≡ Some y → not (lt null y) ≡ bad_scale (double_at l p ∷ []) 0
  unfolding bad_scale
  scale-some y h = let d = there y h in rw (d.0, d.1)

  pub scale-none : x ≡ None → true ≡ bad_scale (double_at l p ∷ []) 0
  unfolding bad_scale
  scale-none h = rw (not-there h)

  pub finite-is : {y : Bool} → y ≡ is_some x → y ≡ finite (double_at l p)
  finite-is h = h ∙ rw e (go (finite (double_at l p)))
    where
      go : (b : Bool) → is_some (cond b (Some (double_at l p)) None) ≡ b
      go true = refl
      go false = refl

-- ---- the numbers that are read

pub length-wholes-from : (start stride group n : ℕ) (l : List ℕ) → length (wholes_from start stride group n l) ≡ n
unfolding wholes_from
length-wholes-from start stride group n l = length-field n (λ i. u32_at l (spread start stride 4 group i))

pub length-doubles-from : (start stride group n : ℕ) (l : List ℕ) → length (doubles_from start stride group n l) ≡ n
unfolding doubles_from
length-doubles-from start stride group n l = length-field n (λ i. double_at l (spread start stride 8 group i))

module _ (start stride group n k : ℕ) (l : List ℕ) (h : k < n) where
  pub whole-read : get_or (wholes_from start stride group n l) k 0 ≡ u32_at l (spread start stride 4 group k)
  unfolding wholes_from
  whole-read = get_or-field n (λ i. u32_at l (spread start stride 4 group i)) k 0 h

  pub double-read : get_or (doubles_from start stride group n l) k nan ≡ double_at l (spread start stride 8 group k)
  unfolding doubles_from
  double-read = get_or-field n (λ i. double_at l (spread start stride 8 group i)) k nan h

-- ---- 4 and 5

module _ (p : ℕ) (s : Shape) (l : List ℕ) (r : ℕ) {a b : ℕ} (ea : a ≡ u32_at l (p + 48 * r)) (eb : b ≡ u32_at l (p + 48 * r + 4)) (h : r < rows s) where
  first : get_or (ends_from p (rows s) l) (2 * r) 0 ≡ a
  first =
      let e : spread p 48 4 2 (2 * r) ≡ p + 48 * r = omega arith in
      whole-read p 48 2 (2 * rows s) (2 * r) l (omega arith) ∙ ap (u32_at l) e ∙ sym ea

  second : get_or (ends_from p (rows s) l) (2 * r + 1) 0 ≡ b
  second =
      let e : spread p 48 4 2 (2 * r + 1) ≡ p + 48 * r + 4 = omega arith in
      whole-read p 48 2 (2 * rows s) (2 * r + 1) l (omega arith) ∙ ap (u32_at l) e ∙ sym eb

  pub strays-is : {d : ℕ} → d ≡ cond (ltb r s.bearings) s.points s.cameras → (leb s.cameras a || leb d b) ≡ strays s.cameras s.points s.bearings (ends_from p (rows s) l) r
  unfolding strays
  strays-is f = rw (first, second, ← f)

  pub loops_is : (leb s.bearings r && eqb a b) ≡ loops s.bearings (ends_from p (rows s) l) r
  unfolding loops
  loops_is = rw (first, second)

-- ---- 7: one number to a row, or three

module _ (start stride n k : ℕ) (l : List ℕ) (h : k < n) where
  single-read : get_or (doubles_from start stride 1 n l) k nan ≡ double_at l (start + stride * k)
  single-read =
      let a : k / 1 ≡ k = omega arith in
      let b : k % 1 ≡ 0 = omega arith in
      let e : spread start stride 8 1 k ≡ start + stride * k = rw (a, b) (omega arith) in
      double-read start stride 1 n k l h ∙ ap (double_at l) e

  weight-read : bad_weight (doubles_from start stride 1 n l) k ≡ bad_weight (double_at l (start + stride * k) ∷ []) 0
  unfolding bad_weight
  weight-read = ap (λ x. not (finite x) || lt x null) single-read

  scale-read : bad_scale (doubles_from start stride 1 n l) k ≡ bad_scale (double_at l (start + stride * k) ∷ []) 0
  unfolding bad_scale
  scale-read = ap (λ x. not (finite x) || not (lt null x)) single-read

abbrev vector_at : List ℕ → ℕ → Vec3
vector_at l p = record { x = double_at l p; y = double_at l (p + 8); z = double_at l (p + 16) }

module _ (start stride n i : ℕ) (l : List ℕ) (h : 3 * i + 3 ≤ n) where
  third : (j : ℕ) → j < 3 → get_or (doubles_from start stride 3 n l) (3 * i + j) nan ≡ double_at l (start + stride * i + 8 * j)
  third j q =
      let a : (3 * i + j) / 3 ≡ i = omega arith in
      let b : (3 * i + j) % 3 ≡ j = omega arith in
      double-read start stride 3 n (3 * i + j) l (omega arith) ∙ ap (double_at l) (rw (a, b) refl)

  vector-read : get vector (doubles_from start stride 3 n l) (3 * i) ≡ vector_at l (start + stride * i)
  vector-read =
      let xs = doubles_from start stride 3 n l in
      let a : get_or xs (3 * i) nan ≡ double_at l (start + stride * i) = simp add-zero at (third 0 (omega arith)) in
      let b : get_or xs (3 * i + 1) nan ≡ double_at l (start + stride * i + 8) = third 1 (omega arith) in
      let d : get_or xs (3 * i + 2) nan ≡ double_at l (start + stride * i + 16) = third 2 (omega arith) in
      get-vector xs (3 * i) ∙ rw (a, b, d)

-- a vector by itself, and as one of n
vector-bad : (start stride n i p : ℕ) (l : List ℕ) → i < n → start + stride * i ≡ p → bad_vector (doubles_from start stride 3 (3 * n) l) i ≡ not (is_finite (vector_at l p))
unfolding bad_vector
vector-bad start stride n i p l h e = ap (λ v. not (is_finite v)) (vector-read start stride (3 * n) i l (omega arith) ∙ ap (vector_at l) e)

one-vector : (p : ℕ) (l : List ℕ) → bad_vector (points_from p 1 l) 0 ≡ not (is_finite (vector_at l p))
one-vector p l = vector-bad p 24 1 0 p l (omega arith) (omega arith)

pub vector-is : (p : ℕ) (l : List ℕ) {a b d : Bool} → a ≡ finite (double_at l p) → b ≡ finite (double_at l (p + 8)) → d ≡ finite (double_at l (p + 16)) →
    not (a && b && d) ≡ bad_vector (points_from p 1 l) 0
unfolding is_finite
vector-is p l e f g = rw (and_assoc, e, f, g) (sym (one-vector p l))

-- a point by itself, and as one of m
pub point-is : (p m i : ℕ) (l : List ℕ) {x : Bool} → x ≡ bad_vector (points_from (p + 24 * i) 1 l) 0 → i < m → x ≡ bad_vector (points_from p m l) i
point-is p m i l e h = e ∙ one-vector (p + 24 * i) l ∙ sym (vector-bad p 24 m i (p + 24 * i) l h refl)

-- a row by itself, and as one of `count`
row_read : (p count r : ℕ) (l : List ℕ) → r < count → bad_row_from p count l r ≡
    (bad_weight (double_at l (p + 48 * r + 32) ∷ []) 0 || bad_scale (double_at l (p + 48 * r + 40) ∷ []) 0 || bad_vector (points_from (p + 48 * r + 8) 1 l) 0)
unfolding bad_row
row_read p count r l h =
    let a : p + 32 + 48 * r ≡ p + 48 * r + 32 = omega arith in
    let b : p + 40 + 48 * r ≡ p + 48 * r + 40 = omega arith in
    rw or_assoc (ap₂ ◌||◌
    (weight-read (p + 32) 48 count r l h ∙ ap (λ t. bad_weight (double_at l t ∷ []) 0) a)
    (ap₂ ◌||◌
    (scale-read (p + 40) 48 count r l h ∙ ap (λ t. bad_scale (double_at l t ∷ []) 0) b)
    (vector-bad (p + 8) 48 count r (p + 48 * r + 8) l h (omega arith) ∙ sym (one-vector (p + 48 * r + 8) l))))

pub row-is : (p count r : ℕ) (l : List ℕ) {a b d : Bool} → r < count →
    a ≡ bad_weight (double_at l (p + 48 * r + 32) ∷ []) 0 → b ≡ bad_scale (double_at l (p + 48 * r + 40) ∷ []) 0 → d ≡ bad_vector (points_from (p + 48 * r + 8) 1 l) 0 →
    (a || b || d) ≡ bad_row_from p count l r
row-is p count r l h e f g = rw (e, f, g) (sym (row_read p count r l h))

-- the running place of a point does not wrap
pub place-fits : (p : ℕ → Bool) (m : ℕ) {x : Option ℕ} {i : ℕ} (count : ℕ) → x ≡ lowest p m → x ≡ Some i → count + m < 2 ^ 64 → Fits w64 (count + i)
place-fits p m count e h a = omega (arith, found_below p m e h)
