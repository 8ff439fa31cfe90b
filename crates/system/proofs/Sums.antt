-- The sums over the rows that a point lists, in the code's loops and in the work buffer. Assumes nothing.
use mathlib.Core.Path.{◌≡◌, refl, sym, ap, ◌∙◌}
use mathlib.Core.Logic.{inr}
use mathlib.Core.List.{List}
use mathlib.Core.Bool.{true, false}
use Prim.Native.Nat.{ℕ, suc, ◌+◌, ◌-◌, ◌*◌, ◌≤◌, ◌<◌}
use native.Mathlib.Numerals.{add-one}
use native.Mathlib.Omega.{arith}
use native.Mathlib.Nat.{zero-add, one-mul}
use borrow.Rule.Slice.PartMut.{put_mid, mid_of}
use lib.Seq.{drop-drop}
use lib.ListN.{length, get_or, drop, set}
use lib.Ieee.{Float, binary64, add, lt}
use Rattle.field.specs.declared.Vec3.{Vec3}
use Rattle.field.specs.Vec.{null, origin, plus, over}
use Rattle.field.specs.Count.{field, upto}
use Rattle.field.specs.Buffer.{put, store, number, vector, write, part}
use Rattle.field.proofs.Counting.{upto-suc, length-field}
use Rattle.field.proofs.Buffers.{number-set, number-lawful, vector-lawful, map_more, store-more, store-none, put-store-comm, store-whole, store-number, flat-number, write-split, length_part}
use Rattle.double.specs.Sums.{total}
use Rattle.network.specs.declared.Shape.{Shape}
use Rattle.network.specs.declared.Span.{Span}
use Rattle.network.specs.Network.{span_of, rows}
use Rattle.system.specs.System.{tiny, effective_in, pull_in, weight_sum, pull_sum, mean_of, sums_from, Sums}
use Rattle.system.specs.Work.{weights_at, means_at, effective_at, matrix_at}
use Rattle.system.specs.declared.points.ListSums.{ListSums}
use Rattle.system.specs.declared.points.PointSums.{PointSums}
use Rattle.system.specs.inner.Formed.{point_stored, summed}

-- the first i of the places from f on
abbrev pub places : ℕ → ℕ → Span
places f i = record { first = f; size = i }

-- ---- W

module _ (e : ℕ → Float) (listed : List ℕ) (f : ℕ) where
  pub weight-none : null ≡ weight_sum e listed (places f 0)
  unfolding weight_sum total
  weight-none = refl

  pub weight-more : (i r : ℕ) (s x : Float) → r ≡ get_or listed (f + i) 0 → x ≡ e r → s ≡ weight_sum e listed (places f i) → add binary64 s x ≡ weight_sum e listed (places f (i + 1))
  unfolding weight_sum total
  weight-more i r s x er ex es = rw (add-one, ← er, ex) (ap (λ (t : Float). add binary64 t (e r)) es)

-- ---- the pulls

module _ (o : ℕ → Vec3) (listed : List ℕ) (f : ℕ) where
  pub pulls-none : (v : Vec3) → v ≡ origin → v ≡ pull_sum o listed (places f 0)
  unfolding pull_sum upto
  pulls-none v e = e

  pub pulls-more : (i r : ℕ) (s t x : Vec3) → r ≡ get_or listed (f + i) 0 → x ≡ o r → s ≡ pull_sum o listed (places f i) → t ≡ plus s x → t ≡ pull_sum o listed (places f (i + 1))
  unfolding pull_sum
  pulls-more i r s t x er ex es et = rw (add-one, upto-suc, ← es, ← er, ← ex) et

-- ---- the mean offset

pub mean-above : (w : Float) (v u : Vec3) → lt tiny w ≡ true → u ≡ over v w → u ≡ mean_of w v
unfolding mean_of
mean-above w v u h e = rw h e

pub mean-below : (w : Float) (v u : Vec3) → lt tiny w ≡ false → u ≡ origin → u ≡ mean_of w v
unfolding mean_of
mean-below w v u h e = rw h e

-- ---- numbers and vectors that are stored one after another

pub numbers_more : (l : List Float) (p i : ℕ) (g : ℕ → Float) (w : List Float) (a : Float) → w ≡ store number l p (field i g) → a ≡ g i → set w (p + i) a ≡ store number l p (field (i + 1) g)
numbers_more l p i g w a e h = rw add-one (sym (number-set w p i a) ∙ map_more number number-lawful l p i g w a e h)

-- numbers in a part that is lent: one more, and the part put back full
pub weights-more : (l w : List Float) (i : ℕ) (g : ℕ → Float) (a : Float) → w ≡ store number l 0 (field i g) → a ≡ g i → set w i a ≡ store number l 0 (field (i + 1) g)
weights-more l w i g a e h = ap (λ (k : ℕ). set w k a) (sym (zero-add i)) ∙ numbers_more l 0 i g w a e h

weights-ended : (l m : List Float) (p n i : ℕ) (g : ℕ → Float) → p + n ≤ length l → let w = mid_of p (p + n - p) l in
    m ≡ store number w 0 (field i g) → i ≤ length w → length w ≤ i → length m ≡ length w → put_mid p (p + n - p) l m ≡ store number l p (field n g)
weights-ended l m p n i g h e a b k =
    let q : p + n - p ≡ n = omega arith in
    let lw : length (part l p n) ≡ n = length_part l p n h in
    let lm : length m ≡ n = k ∙ rw q lw in
    let j : i ≡ n = omega arith in
    let f : m ≡ field n g =
    rw (q, j) at e ∙ store-whole number number-lawful (part l p n) (field n g) (rw (length-field n g, one-mul) lw) ∙ flat-number (field n g) in
    let r : drop n (drop p l) ≡ drop (p + length m) l = rw lm (drop-drop n p l) in
    rw (q, r) (sym (write-split l p m (omega arith)) ∙ ap (write l p) f) ∙ sym (store-number l p (field n g))

pub weights-filled : (l m : List Float) (s t : Shape) (p i : ℕ) (g : ℕ → Float) → s ≡ t → p ≡ effective_at s → matrix_at t ≤ length l →
    let n = s.bearings + s.directions in let w = mid_of p (p + n - p) l in
    m ≡ store number w 0 (field i g) → i ≤ length w → length w ≤ i → length m ≡ length w →
    put_mid p (p + n - p) l m ≡ store number l (effective_at t) (field (rows t) g)
weights-filled l m s t p i g es ep h e a b k =
    let h2 : matrix_at s ≤ length l = rw (← es) at h in
    let h3 : p + (s.bearings + s.directions) ≤ length l = omega arith in
    weights-ended l m p (s.bearings + s.directions) i g h3 e a b k ∙ rw (ep, es) refl

-- a number and a vector stored at places that are known
pub stored_at : (l m : List Float) (a b p q : ℕ) (w : Float) (v : Vec3) → a ≡ p → b ≡ q → (i j : ℕ) → m ≡ put vector (set l (a + i) w) (b + j) v → m ≡ put vector (set l (p + i) w) (q + j) v
stored_at l m a b p q w v ea eb i j e = e ∙ rw (ea, eb)

-- one more number and one more vector, of two fields that are filled side by side
both-more : (l w : List Float) (a b i : ℕ) (g : ℕ → Float) (k : ℕ → Vec3) → a + i < b → w ≡ store vector (store number l a (field i g)) b (field i k) →
    put vector (set w (a + i) (g i)) (b + 3 * i) (k i) ≡ store vector (store number l a (field (suc i) g)) b (field (suc i) k)
both-more l w a b i g k h e =
    let s = store number l a (field i g) in
    let c : set w (a + i) (g i) ≡ store vector (store number l a (field (suc i) g)) b (field i k) =
    ap (λ (t : List Float). set t (a + i) (g i)) e
    ∙ sym (number-set (store vector s b (field i k)) a i (g i))
    ∙ put-store-comm vector vector-lawful number number-lawful s b (field i k) (a + 1 * i) (g i) (inr (omega arith))
    ∙ ap (λ (t : List Float). store vector t b (field i k)) (store-more number number-lawful l a i g) in
    map_more vector vector-lawful (store number l a (field (suc i) g)) b i k _ (k i) c refl

-- ---- the points' sums in the buffer

abbrev of_point : Sums → ℕ → PointSums
of_point S p = record { weight = S.weights.point p; mean = S.mean p }

module _ (s : Shape) (rays weights scales : List Float) (offsets listed : List ℕ) (l : List Float) where
  abbrev S : Sums
  S = sums_from rays weights scales offsets listed

  pub point-done : (p : ℕ) (k : Span) (t : ListSums) (u : Vec3) → k ≡ span_of offsets p → t.weight ≡ weight_sum (effective_in weights scales) listed k →
      t.pull ≡ pull_sum (pull_in rays weights scales) listed k → u ≡ mean_of t.weight t.pull → record { weight = t.weight; mean = u } ≡ of_point S p
  unfolding sums_from
  point-done p k t u ek ew ev eu = rw (eu, ew, ev, ek)

  pub points_none : l ≡ summed s S l 0
  unfolding summed
  points_none = store-none number l _ _ ∙ store-none vector _ (means_at s) S.mean

  pub point-stored : (p : ℕ) (t : PointSums) (w : List Float) → t ≡ of_point S p → w ≡ put vector (set l (weights_at s + p) t.weight) (means_at s + 3 * p) t.mean → w ≡ point_stored s S p l
  unfolding point_stored
  point-stored p t w g f = f ∙ rw g

  pub points-more : (p : ℕ) (m w : List Float) → p < s.points → m ≡ summed s S l p → w ≡ point_stored s S p m → w ≡ summed s S l (p + 1)
  unfolding summed point_stored
  points-more p m w h e f = f ∙ rw add-one (both-more l m (weights_at s) (means_at s) p S.weights.point S.mean (omega arith) e)
