-- What the matrix-free operator makes of camera × 1e-6. It only ever adds to an entry, so an entry that is not finite stays so (`reduced-finite`);
-- and it leaves the anchor's entry and the length as they are. Assumes nothing.
use mathlib.Core.Path.{◌≡◌, refl, sym, ap, ◌∙◌, subst}
use mathlib.Core.Bool.{Bool, true, false, cond}
use mathlib.Core.List.{List}
use Prim.Native.Nat.{ℕ, ◌+◌, ◌<◌}
use native.Mathlib.Omega.{arith}
use borrow.Author.Tests.{eqb-true, eqb-false, ne_eqb, eq-eqb, ltb-true, ltb-false}
use lib.Dec.{eqb, ltb}
use lib.ListN.{get_or, length, set, length-set}
use lib.Seq.{set_out, get_or-set_same, get_or-set_other}
use lib.Ieee.{Float, binary64, lt}
use lib.Ieee.Scale.{finite}
use Rattle.field.specs.declared.Vec3.{Vec3}
use Rattle.field.specs.Vec.{Axis, on, origin, plus, minus, scale, at}
use Rattle.field.proofs.Vectors.{on-plus, on-minus, on-scale}
use Rattle.field.proofs.Counting.{length-field, get_or-field, upto-ext, upto-invariant}
use Rattle.double.proofs.Finite.{finite-add, finite-sub, finite-mul}
use Rattle.network.specs.Network.{rows, row_at, Links, span_of}
use Rattle.system.specs.System.{tiny, Weights, ridge}
use Rattle.operator.specs.Operator.{Change, changed, ridge_entry, gains, loses, times, mean_step, ridged, bearing_step, list_step, span_pass, point_step, direction_step, reduced_by}
use Rattle.network.specs.declared.Span.{Span}
use Rattle.network.specs.inner.Sound.{LinksSound}

-- ---- what each gain and each loss keeps, the operator keeps

-- a relation of a field to what it was before: reflexive, transitive, and met where an entry gains or loses
record Stable (a : ℕ) (R : List Vec3 → List Vec3 → Type 0) : Type 0 where
  same : (y : List Vec3) → R y y
  chain : (w y z : List Vec3) → R w y → R y z → R w z
  gain : (c : ℕ) (v : Vec3) (y : List Vec3) → R (gains a c v y) y
  loss : (c : ℕ) (v : Vec3) (y : List Vec3) → R (loses a c v y) y

module _ (w : Weights) (a : ℕ) (x : List Vec3) (R : List Vec3 → List Vec3 → Type 0) (K : Stable a R) where
  steps : (f : ℕ → Change) → ((i : ℕ) (y : List Vec3) → R (f i w x y) y) → (n : ℕ) (y : List Vec3) → R (times f n w x y) y
  unfolding times
  steps f h n y = upto-invariant (λ i t. R t y) (λ i. f i w x) n y (λ i t l r. K.chain (f i w x t) t y (h i t) r) (K.same y)

  bearing-step : (ends : List ℕ) (u : Vec3) (r : ℕ) (y : List Vec3) → R (bearing_step ends a u r w x y) y
  unfolding bearing_step
  bearing-step ends u r y = K.gain _ _ y

  direction-step : (b : ℕ) (ends : List ℕ) (d : ℕ) (y : List Vec3) → R (direction_step b ends a d w x y) y
  unfolding direction_step
  direction-step b ends d y = K.chain _ _ y (K.gain _ _ _) (K.loss _ _ y)

module _ (L : Links) (w : Weights) (a : ℕ) (x : List Vec3) (R : List Vec3 → List Vec3 → Type 0) (K : Stable a R) where
  span-pass : (listed : List ℕ) (p : Span) (t : Float) (y : List Vec3) → R (span_pass L.ends listed a p t w x y) y
  unfolding span_pass
  span-pass listed p t y = steps w a x R K (list_step L.ends listed p a _) (λ i. bearing-step w a x R K L.ends _ (row_at listed p i)) p.size y

  point-step : (p : ℕ) (y : List Vec3) → R (point_step L a p w x y) y
  unfolding point_step
  point-step p y = go (lt (w.point p) tiny)
    where
      go : (b : Bool) → R (cond b y (span_pass L.ends L.listed a (span_of L.offsets p) (w.point p) w x y)) y
      go true = K.same y
      go false = span-pass L.listed (span_of L.offsets p) (w.point p) y

  reduced-keeps : R (reduced_by L w a x) (ridged L.shape.cameras a x)
  unfolding reduced_by
  reduced-keeps =
      let s = L.shape in
      let z = ridged s.cameras a x in
      let y = times (point_step L a) s.points w x z in
      K.chain _ y z (steps w a x R K (direction_step s.bearings L.ends a) (direction-step w a x R K s.bearings L.ends) s.directions y)
      (steps w a x R K (point_step L a) point-step s.points z)

-- ---- the length, and the anchor's entry

pub changed-length : (op : Vec3 → Vec3 → Vec3) (a c : ℕ) (v : Vec3) (y : List Vec3) → length (changed op a c v y) ≡ length y
unfolding changed
changed-length op a c v y = go (eqb c a)
  where
    go : (b : Bool) → length (cond b y (set y c (op (at y c) v))) ≡ length y
    go true = refl
    go false = length-set y c (op (at y c) v)

anchor-unchanged : (op : Vec3 → Vec3 → Vec3) (a c : ℕ) (v : Vec3) (y : List Vec3) → at (changed op a c v y) a ≡ at y a
unfolding changed
anchor-unchanged op a c v y = go (eqb c a) refl
  where
    go : (b : Bool) → eqb c a ≡ b → at (cond b y (set y c (op (at y c) v))) a ≡ at y a
    go true q = refl
    go false q = get_or-set_other y c a (op (at y c) v) origin (λ e. eqb-false c a q (sym e))

-- a view of the entries that no change of one alters
view-kept : {T : Type 0} (a : ℕ) (view : List Vec3 → T) → ((op : Vec3 → Vec3 → Vec3) (c : ℕ) (v : Vec3) (y : List Vec3) → view (changed op a c v y) ≡ view y) → Stable a (λ w y. view w ≡ view y)
view-kept a view h = record { same = λ y. refl; chain = λ w y z p q. p ∙ q; gain = h plus; loss = h minus }

length-kept : (a : ℕ) → Stable a (λ w y. length w ≡ length y)
length-kept a = view-kept a length (λ op. changed-length op a)

-- a change of a field of n vectors into another
pub record Sized (n : ℕ) (F : Change) : Type 0 where
  pub sized : (w : Weights) (x y : List Vec3) → length y ≡ n → length (F w x y) ≡ n

pub sized-times : (n : ℕ) (f : ℕ → Change) → ((i : ℕ) → Sized n (f i)) → (k : ℕ) → Sized n (times f k)
unfolding times
sized-times n f h k = record { sized = λ w x y e. upto-invariant (λ i t. length t ≡ n) (λ i. f i w x) k y (λ i t l r. (h i).sized w x t r) e }

pub sized-point : (L : Links) (n a p : ℕ) → Sized n (point_step L a p)
sized-point L n a p = record { sized = λ w x y e. point-step L w a x _ (length-kept a) p y ∙ e }

module _ (n a : ℕ) where
  pub sized-bearing : (ends : List ℕ) (u : Vec3) (r : ℕ) → Sized n (bearing_step ends a u r)
  sized-bearing ends u r = record { sized = λ w x y e. bearing-step w a x _ (length-kept a) ends u r y ∙ e }

  pub sized-direction : (b : ℕ) (ends : List ℕ) (d : ℕ) → Sized n (direction_step b ends a d)
  sized-direction b ends d = record { sized = λ w x y e. direction-step w a x _ (length-kept a) b ends d y ∙ e }

module _ (L : Links) (w : Weights) (a : ℕ) (x : List Vec3) where
  pub by_length : length (reduced_by L w a x) ≡ L.shape.cameras
  by_length = reduced-keeps L w a x _ (length-kept a) ∙ length-field _ _

  pub by-anchor : a < L.shape.cameras → at (reduced_by L w a x) a ≡ origin
  unfolding ridge_entry
  by-anchor h =
      reduced-keeps L w a x _ (view-kept a (λ y. at y a) (λ op. anchor-unchanged op a))
      ∙ get_or-field _ (ridge_entry a x) a origin h
      ∙ rw (eq-eqb a a refl)

-- ---- an entry that is not finite

-- entry i is finite on axis k
abbrev FiniteAt : Axis → ℕ → List Vec3 → Type 0
FiniteAt k i y = finite (on k (at y i)) ≡ true

-- on each axis the result is finite only where the first operand is
abbrev Firm : (Vec3 → Vec3 → Vec3) → Type 0
Firm op = (k : Axis) (u v : Vec3) → finite (on k (op u v)) ≡ true → finite (on k u) ≡ true

firm-plus : Firm plus
firm-plus k u v e = (finite-add binary64 (on k u) (on k v) (sym (ap finite (on-plus k u v)) ∙ e)).0

firm-minus : Firm minus
firm-minus k u v e = (finite-sub binary64 (on k u) (on k v) (sym (ap finite (on-minus k u v)) ∙ e)).0

firm-scale : (k : Axis) (u : Vec3) (s : Float) → finite (on k (scale u s)) ≡ true → finite (on k u) ≡ true
firm-scale k u s e = (finite-mul binary64 (on k u) s (sym (ap finite (on-scale k u s)) ∙ e)).0

-- out of range a store changes nothing
set-finite : (op : Vec3 → Vec3 → Vec3) → Firm op → (k : Axis) (i c : ℕ) (v : Vec3) (y : List Vec3) → FiniteAt k i (set y c (op (at y c) v)) → FiniteAt k i y
set-finite op F k i c v y e = go (eqb i c) refl (ltb c (length y)) refl
  where
    w : Vec3
    w = op (at y c) v

    go : (b : Bool) → eqb i c ≡ b → (t : Bool) → ltb c (length y) ≡ t → FiniteAt k i y
    go true q true l =
        let h : i ≡ c = eqb-true i c q in
        rw h (F k (at y c) v (subst (λ (u : Vec3). finite (on k u) ≡ true) (get_or-set_same y c w origin (ltb-true c (length y) l)) (rw h at e)))
    go true q false l = rw (set_out y c w (ltb-false c (length y) l)) at e
    go false q t l = rw (get_or-set_other y c i w origin (eqb-false i c q)) at e

changed-finite : (op : Vec3 → Vec3 → Vec3) → Firm op → (k : Axis) (i a c : ℕ) (v : Vec3) (y : List Vec3) → FiniteAt k i (changed op a c v y) → FiniteAt k i y
unfolding changed
changed-finite op F k i a c v y = go (eqb c a)
  where
    go : (b : Bool) → FiniteAt k i (cond b y (set y c (op (at y c) v))) → FiniteAt k i y
    go true e = e
    go false e = set-finite op F k i c v y e

finite-kept : (k : Axis) (i a : ℕ) → Stable a (λ w y. FiniteAt k i w → FiniteAt k i y)
finite-kept k i a = record {
  same = λ y e. e;
  chain = λ w y z p q e. q (p e);
  gain = changed-finite plus firm-plus k i a;
  loss = changed-finite minus firm-minus k i a;
}

ridged-finite : (n a : ℕ) (x : List Vec3) (k : Axis) (i : ℕ) → i < n → (i ≡ a → ⊥) → FiniteAt k i (ridged n a x) → FiniteAt k i x
unfolding ridge_entry
ridged-finite n a x k i l d e =
    let h = get_or-field n (ridge_entry a x) i origin l in
    firm-scale k (at x i) ridge (sym (ap finite (ap (on k) (h ∙ rw (ne_eqb i a d)))) ∙ e)

pub by-finite : (L : Links) (w : Weights) (a : ℕ) (x : List Vec3) (k : Axis) (i : ℕ) → i < L.shape.cameras → (i ≡ a → ⊥) → finite (on k (at (reduced_by L w a x) i)) ≡ true →
    finite (on k (at x i)) ≡ true
by-finite L w a x k i l d e = ridged-finite L.shape.cameras a x k i l d (reduced-keeps L w a x _ (finite-kept k i a) e)

-- ---- two weights that agree at the rows and points in range

module _ (L : Links) (S : LinksSound L) (a : ℕ) (v w : Weights) (row : (r : ℕ) → r < rows L.shape → v.row r ≡ w.row r) (point : (p : ℕ) → p < L.shape.points →
    v.point p ≡ w.point p) (x : List Vec3) where
  listed_same : (p : ℕ) → p < L.shape.points → (i : ℕ) → i < (span_of L.offsets p).size → let r = row_at L.listed (span_of L.offsets p) i in v.row r ≡ w.row r
  listed_same p h i k = row _ (omega (arith, S.listed.bearing (get_or L.offsets p 0 + i) (omega (arith, S.offsets.within (p + 1) (omega arith)))))

  span_same : (p : ℕ) → p < L.shape.points → (t : Float) (y : List Vec3) →
      span_pass L.ends L.listed a (span_of L.offsets p) t v x y ≡ span_pass L.ends L.listed a (span_of L.offsets p) t w x y
  unfolding span_pass times bearing_step
  span_same p h t y =
      let k = span_of L.offsets p in
      let n = k.size in
      rw (upto-ext (mean_step L.ends L.listed k v x) (mean_step L.ends L.listed k w x) n origin (λ i z b. rw (listed_same p h i b)))
      (upto-ext (λ i. list_step L.ends L.listed k a _ i v x) (λ i. list_step L.ends L.listed k a _ i w x) n y (λ i z b. rw (listed_same p h i b)))

  point-same : (p : ℕ) → p < L.shape.points → (y : List Vec3) → point_step L a p v x y ≡ point_step L a p w x y
  unfolding point_step
  point-same p h y = rw (point p h, span_same p h (w.point p) y)

  direction-same : (d : ℕ) → d < L.shape.directions → (y : List Vec3) → direction_step L.shape.bearings L.ends a d v x y ≡ direction_step L.shape.bearings L.ends a d w x y
  unfolding direction_step
  direction-same d h y = rw (row (L.shape.bearings + d) (omega arith))

  pub reduced-same : reduced_by L v a x ≡ reduced_by L w a x
  unfolding reduced_by times
  reduced-same =
      let s = L.shape in
      rw (upto-ext (λ p. point_step L a p v x) (λ p. point_step L a p w x) s.points (ridged s.cameras a x) (λ p y h. point-same p h y))
      (upto-ext (λ d. direction_step s.bearings L.ends a d v x) (λ d. direction_step s.bearings L.ends a d w x) s.directions _ (λ d y h. direction-same d h y))
