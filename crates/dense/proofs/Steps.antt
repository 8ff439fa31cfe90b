-- The steps that make the matrix. Assumes nothing.
use mathlib.Core.Path.{◌≡◌, refl, sym, ap, ◌∙◌}
use mathlib.Core.List.{List}
use mathlib.Core.Bool.{Bool, true, false, cond}
use Prim.Native.Nat.{ℕ, ◌+◌, ◌-◌, ◌*◌, ◌≤◌, ◌<◌}
use native.Mathlib.Omega.{arith}
use lib.ListN.{length, get_or, set, replicate, length-set, length-replicate}
use lib.Ieee.{Float, nan, binary64, add, neg, lt}
use borrow.Rule.Slice.PartMut.{put_mid, mid_of}
use Rattle.field.specs.Vec.{null}
use Rattle.field.specs.Buffer.{part, get, write, load}
use Rattle.field.proofs.Buffers.{length_part, write-part}
use Rattle.network.specs.declared.Shape.{Shape}
use Rattle.network.specs.declared.Span.{Span}
use Rattle.network.specs.Network.{Links, rows, first_end, second_end, span_of, row_at}
use Rattle.network.specs.inner.Sound.{ListedSound, LinksSound}
use Rattle.network.proofs.Sound.{span-in}
use Rattle.system.specs.declared.CameraTerm.{CameraTerm}
use Rattle.system.specs.System.{Weights, tiny, ridge, term_at}
use Rattle.system.specs.Work.{matrix_at, dense_right_at, work_end, term, term_place}
use Rattle.system.specs.inner.Formed.{weights_in}
use Rattle.system.proofs.Terms.{term-here}
use Rattle.std.proofs.Common.{Option, Some, None}
use Rattle.dense.specs.declared.rows.DenseRow.{DenseRow}
use Rattle.dense.specs.Rows.{dense_row}
use Rattle.dense.specs.Matrix.{MatrixChange, times, lower_place, set_diagonal, couple, shared, places_after, diagonal_step, couple_cameras, pair_step, with_step}
use Rattle.dense.specs.Matrix.{place_step, point_step, direction_step, couplings, matrix_by}
use Rattle.dense.specs.inner.Held.{matrix_changed}
use Rattle.dense.proofs.Changes.{AgreeOn, SizeKept, LocalChange, sized-times, local-times, lent-part, lent_back, changed-write, changed-both, changes-more}

-- ---- an entry

module _ (d : ℕ) where
  pub diagonal-anchor : (r : Option DenseRow) (v : Float) (A : List Float) → r ≡ None → A ≡ set_diagonal d r v A
  unfolding set_diagonal
  diagonal-anchor r v A e = rw e

  pub diagonal-dense : (r : Option DenseRow) (p : DenseRow) (v : Float) (A : List Float) (k : ℕ) → r ≡ Some p → k ≡ lower_place d p p → set A k (add binary64 v ridge) ≡ set_diagonal d r v A
  unfolding set_diagonal
  diagonal-dense r p v A k e f = rw (e, f)

  length-diagonal : (r : Option DenseRow) (v : Float) (A : List Float) → length (set_diagonal d r v A) ≡ length A
  unfolding set_diagonal
  length-diagonal None v A = refl
  length-diagonal (Some p) v A = length-set A (lower_place d p p) (add binary64 v ridge)

  pub couple-dense : (r q : Option DenseRow) (i j : DenseRow) (v : Float) (A : List Float) (k : ℕ) → r ≡ Some i → q ≡ Some j → k ≡ lower_place d i j →
      set A k (add binary64 (get_or A k nan) v) ≡ couple d r q v A
  unfolding couple
  couple-dense r q i j v A k e f g = rw (e, f, g)

  length-couple : (r q : Option DenseRow) (v : Float) (A : List Float) → length (couple d r q v A) ≡ length A
  unfolding couple
  length-couple None q v A = refl
  length-couple (Some i) None v A = refl
  length-couple (Some i) (Some j) v A = length-set A (lower_place d i j) (add binary64 (get_or A (lower_place d i j) nan) v)

-- ---- a camera's term

pub term-read : (l : List Float) (n c : ℕ) (t : CameraTerm) → c < n → t ≡ get term l (term_place c) → term_at (load term l 0 n) c ≡ t
term-read l n c t h e = sym (e ∙ term-here l n c h)

-- ---- each step keeps the matrix's size

module _ (a d : ℕ) where
  sized-diagonal : (c : ℕ) → SizeKept d (diagonal_step a d c)
  unfolding diagonal_step
  sized-diagonal c w ts A h = length-diagonal d (dense_row c a) _ A ∙ h

  sized-couple : (i j : ℕ) (v : Float) → SizeKept d (couple_cameras a d i j v)
  unfolding couple_cameras
  sized-couple i j v w ts A h = length-couple d (dense_row i a) (dense_row j a) v A ∙ h

  sized-pair : (ends : List ℕ) (t : Float) (r q : ℕ) → SizeKept d (pair_step a d ends t r q)
  unfolding pair_step
  sized-pair ends t r q w ts A h = sized-couple _ _ _ w ts A h

  sized-place : (ends listed : List ℕ) (t : Float) (k : Span) (i : ℕ) → SizeKept d (place_step a d ends listed t k i)
  unfolding place_step
  sized-place ends listed t k i = sized-times d _ _ (λ j. sized-pair ends t (row_at listed k i) (row_at listed (places_after k i) j))

  sized-point : (L : Links) (p : ℕ) → SizeKept d (point_step a d L p)
  unfolding point_step
  sized-point L p w ts A e = go (lt (w.point p) tiny)
    where
      go : (b : Bool) → length (cond b A (times (place_step a d L.ends L.listed (w.point p) (span_of L.offsets p)) (span_of L.offsets p).size w ts A)) ≡ d * d
      go true = e
      go false = sized-times d _ _ (λ i. sized-place L.ends L.listed (w.point p) (span_of L.offsets p) i) w ts A e

  sized-direction : (b : ℕ) (ends : List ℕ) (k : ℕ) → SizeKept d (direction_step a d b ends k)
  unfolding direction_step
  sized-direction b ends k w ts A h = sized-couple _ _ _ w ts A h

-- ---- and reads the weights of rows and points that there are

module _ (s : Shape) (a d : ℕ) where
  local-diagonal : (c : ℕ) → LocalChange s d (diagonal_step a d c)
  unfolding diagonal_step
  local-diagonal c = record { sized = sized-diagonal a d c; same = λ w w' ts A g. refl }

  local-couple : (i j : ℕ) (v : Float) → LocalChange s d (couple_cameras a d i j v)
  unfolding couple_cameras
  local-couple i j v = record { sized = sized-couple a d i j v; same = λ w w' ts A g. refl }

  local-pair : (ends : List ℕ) (t : Float) (r q : ℕ) → r < rows s → q < rows s → LocalChange s d (pair_step a d ends t r q)
  unfolding pair_step couple_cameras
  local-pair ends t r q hr hq = record { sized = sized-pair a d ends t r q; same = λ w w' ts A g. rw (g.row r hr, g.row q hq) }

  local-direction : (ends : List ℕ) (k : ℕ) → k < s.directions → LocalChange s d (direction_step a d s.bearings ends k)
  unfolding direction_step couple_cameras
  local-direction ends k h = record { sized = sized-direction a d s.bearings ends k; same = λ w w' ts A g. rw (g.row (s.bearings + k) (omega arith)) }

  local-directions : (ends : List ℕ) → LocalChange s d (times (direction_step a d s.bearings ends) s.directions)
  local-directions ends = local-times s d _ _ (λ k h. local-direction ends k h)

  module _ (ends listed : List ℕ) (S : ListedSound s.bearings listed) where
    local-place : (t : Float) (k : Span) (i : ℕ) → k.first + k.size ≤ s.bearings → i < k.size → LocalChange s d (place_step a d ends listed t k i)
    unfolding place_step
    local-place t k i hk hi =
        local-times s d _ _ (λ j hj.
        local-pair ends t (row_at listed k i) (row_at listed (places_after k i) j)
        (let q = S.bearing (k.first + i) (omega arith) in omega arith) (let q = S.bearing (k.first + i + 1 + j) (omega arith) in omega arith))

    local-places : (t : Float) (k : Span) → k.first + k.size ≤ s.bearings → LocalChange s d (times (place_step a d ends listed t k) k.size)
    local-places t k hk = local-times s d _ _ (λ i hi. local-place t k i hk hi)

module _ (L : Links) (K : LinksSound L) (a d : ℕ) where
  local-point : (p : ℕ) → p < L.shape.points → LocalChange L.shape d (point_step a d L p)
  unfolding point_step
  local-point p h = record {
    sized = sized-point a d L p;
    same = λ w w' ts A g. rw (g.point p h) (ap (cond (lt (w'.point p) tiny) A) ((places _).same w w' ts A g));
  }
    where
      places : (t : Float) → LocalChange L.shape d (times (place_step a d L.ends L.listed t (span_of L.offsets p)) (span_of L.offsets p).size)
      places t = local-places L.shape a d L.ends L.listed K.listed t (span_of L.offsets p) (span-in _ _ L.offsets p K.offsets h)

  local-points : LocalChange L.shape d (times (point_step a d L) L.shape.points)
  local-points = local-times L.shape d _ _ local-point

  local-couplings : LocalChange L.shape d (couplings a d L)
  unfolding couplings
  local-couplings =
      let D = local-directions L.shape a d L.ends in
      record {
        sized = λ w ts A e. D.sized w ts _ (local-points.sized w ts A e);
        same = λ w w' ts A g. rw (local-points.same w w' ts A g) (D.same w w' ts _ g);
      }

local-diagonals : (s : Shape) (a d n : ℕ) → LocalChange s d (times (diagonal_step a d) n)
local-diagonals s a d n = local-times s d _ n (λ c h. local-diagonal s a d c)

-- ---- in the lent segment

module _ (s : Shape) (a d : ℕ) (l ys : List Float) (p e : ℕ) (room : work_end s d ≤ length l) (ep : p ≡ matrix_at s) (ee : e ≡ dense_right_at s d) where
  -- it came back changed
  lent-changed : (F : MatrixChange) → LocalChange s d F → ys ≡ F (weights_in s l) (load term l 0 s.cameras) (mid_of p (e - p) l) → put_mid p (e - p) l ys ≡ matrix_changed s d F l
  unfolding matrix_changed
  lent-changed F h g =
      let k : e ≡ p + d * d = omega arith in
      let A = part l (matrix_at s) (d * d) in
      let X = F (weights_in s l) (load term l 0 s.cameras) A in
      let f : ys ≡ X = g ∙ ap (F (weights_in s l) (load term l 0 s.cameras)) (lent-part l p e (d * d) k ∙ ap (λ (t : ℕ). part l t (d * d)) ep) in
      let z : length X ≡ d * d = h.sized _ _ A (length_part l (matrix_at s) (d * d) (omega arith)) in
      lent_back l ys p e (d * d) k (omega arith) (ap length f ∙ z) ∙ rw (f, ep)

  pub cameras-coupled : (i j : ℕ) (v : Float) (left right : Option DenseRow) → left ≡ dense_row i a → right ≡ dense_row j a → ys ≡ couple d left right v (mid_of p (e - p) l) →
      put_mid p (e - p) l ys ≡ matrix_changed s d (couple_cameras a d i j v) l
  unfolding couple_cameras
  cameras-coupled i j v left right el er g = lent-changed (couple_cameras a d i j v) (local-couple s a d i j v) (rw (el, er) at g)

  pub diagonal-set : (c : ℕ) (t : CameraTerm) (row : Option DenseRow) → c < s.cameras → t ≡ get term l (term_place c) → row ≡ dense_row c a →
      ys ≡ set_diagonal d row t.diagonal (mid_of p (e - p) l) → put_mid p (e - p) l ys ≡ matrix_changed s d (diagonal_step a d c) l
  unfolding diagonal_step
  diagonal-set c t row h et er g =
      let q : term_at (load term l 0 s.cameras) c ≡ t = term-read l s.cameras c t h et in
      lent-changed (diagonal_step a d c) (local-diagonal s a d c) (rw (q, ← er) g)

-- ---- what the rows add, with the shape t as it was read, and u of the system

module _ (t u s : Shape) (ends : List ℕ) (a d : ℕ) (l w : List Float) (i j : ℕ) (v : Float) (et : t ≡ s) (eu : u ≡ s) where
  pub pair-coupled : (z : Float) (r q : ℕ) → i ≡ first_end ends r → j ≡ first_end ends q → v ≡ shared ((weights_in t l).row r) ((weights_in t l).row q) z →
      w ≡ matrix_changed u d (couple_cameras a d i j v) l → w ≡ matrix_changed s d (pair_step a d ends z r q) l
  unfolding matrix_changed pair_step
  pair-coupled z r q ei ej ev e = let f = rw eu at e in let g = rw et at ev in rw (← ei, ← ej, ← g) f

  pub direction-coupled : (k : ℕ) → i ≡ first_end ends (t.bearings + k) → j ≡ second_end ends (t.bearings + k) → v ≡ (weights_in t l).row (t.bearings + k) →
      w ≡ matrix_changed u d (couple_cameras a d i j (neg v)) l → w ≡ matrix_changed s d (direction_step a d s.bearings ends k) l
  unfolding matrix_changed direction_step
  direction-coupled k ei ej ev e = let f = rw eu at e in rw (← et, ← ei, ← ej, ← ev) (rw (← et) at f)

pub shared-read : (s : Shape) (l : List Float) (r q : ℕ) (e1 e2 t : Float) → e1 ≡ (weights_in s l).row r → e2 ≡ (weights_in s l).row q →
    shared e1 e2 t ≡ shared ((weights_in s l).row r) ((weights_in s l).row q) t
shared-read s l r q e1 e2 t f g = rw (← f, ← g)

module _ (L : Links) (a d p : ℕ) (l : List Float) (t : Float) (et : t ≡ (weights_in L.shape l).point p) where
  pub point-skipped : lt t tiny ≡ true → l ≡ matrix_changed L.shape d (point_step a d L p) l
  unfolding matrix_changed point_step
  point-skipped h = rw (← et, h) (sym (write-part l (matrix_at L.shape) (d * d)))

  pub point-coupled : (k : Span) (i : ℕ) (w : List Float) → lt t tiny ≡ false → k ≡ span_of L.offsets p → i ≤ k.size → k.size ≤ i →
      w ≡ matrix_changed L.shape d (times (place_step a d L.ends L.listed t k) i) l → w ≡ matrix_changed L.shape d (point_step a d L p) l
  unfolding matrix_changed point_step
  point-coupled k i w h ek b c e = let q : i ≡ k.size = omega arith in let g = rw (q, ek) at e in rw (← et, h) g

-- ---- the loops: one step more

pub diagonals-more : (s : Shape) (a d : ℕ) (l m w : List Float) (c : ℕ) → work_end s d ≤ length l →
    m ≡ matrix_changed s d (times (diagonal_step a d) c) l → w ≡ matrix_changed s d (diagonal_step a d c) m →
    w ≡ matrix_changed s d (times (diagonal_step a d) (c + 1)) l
diagonals-more s a d l m w c room = changes-more s d l room (diagonal_step a d) c m w (λ i. sized-diagonal a d i) (local-diagonal s a d c)

pub directions-more : (s : Shape) (ends : List ℕ) (a d : ℕ) (l m w : List Float) (k : ℕ) → work_end s d ≤ length l → k < s.directions →
    m ≡ matrix_changed s d (times (direction_step a d s.bearings ends) k) l → w ≡ matrix_changed s d (direction_step a d s.bearings ends k) m →
    w ≡ matrix_changed s d (times (direction_step a d s.bearings ends) (k + 1)) l
directions-more s ends a d l m w k room h =
    changes-more s d l room (direction_step a d s.bearings ends) k m w (λ i. sized-direction a d s.bearings ends i) (local-direction s a d ends k h)

module _ (L : Links) (a d : ℕ) (l : List Float) (room : work_end L.shape d ≤ length l) (m w : List Float) where
  pub with-more : (t : Float) (r q : ℕ) (k : Span) (j : ℕ) → r < L.shape.bearings → q < L.shape.bearings →
      q ≡ get_or L.listed (k.first + j) 0 → m ≡ matrix_changed L.shape d (times (with_step a d L.ends L.listed t r k) j) l →
      w ≡ matrix_changed L.shape d (pair_step a d L.ends t r q) m → w ≡ matrix_changed L.shape d (times (with_step a d L.ends L.listed t r k) (j + 1)) l
  with-more t r q k j hr hq eq e g =
      let f : LocalChange L.shape d (pair_step a d L.ends t r q) = local-pair L.shape a d L.ends t r q (omega arith) (omega arith) in
      let h = rw eq at f in
      changes-more L.shape d l room (with_step a d L.ends L.listed t r k) j m w (λ i. sized-pair a d L.ends t r (row_at L.listed k i)) h e (rw eq at g)

  module _ (K : LinksSound L) where
    pub places-more : (t : Float) (k : Span) (i r : ℕ) → k.first + k.size ≤ L.shape.bearings → i < k.size →
        r ≡ get_or L.listed (k.first + i) 0 → m ≡ matrix_changed L.shape d (times (place_step a d L.ends L.listed t k) i) l →
        w ≡ matrix_changed L.shape d (times (with_step a d L.ends L.listed t r (places_after k i)) (k.size - (i + 1))) m →
        w ≡ matrix_changed L.shape d (times (place_step a d L.ends L.listed t k) (i + 1)) l
    unfolding place_step
    places-more t k i r hk hi er e g =
        changes-more L.shape d l room (place_step a d L.ends L.listed t k) i m w (λ j. sized-place a d L.ends L.listed t k j)
        (local-place L.shape a d L.ends L.listed K.listed t k i hk hi) e (rw er at g)

    pub points-more : (p : ℕ) → p < L.shape.points → m ≡ matrix_changed L.shape d (times (point_step a d L) p) l →
        w ≡ matrix_changed L.shape d (point_step a d L p) m → w ≡ matrix_changed L.shape d (times (point_step a d L) (p + 1)) l
    points-more p h = changes-more L.shape d l room (point_step a d L) p m w (λ j. sized-point a d L j) (local-point L K a d p h)

  -- ---- the whole

  pub rows-coupled : m ≡ matrix_changed L.shape d (times (point_step a d L) L.shape.points) l →
      w ≡ matrix_changed L.shape d (times (direction_step a d L.shape.bearings L.ends) L.shape.directions) m →
      w ≡ matrix_changed L.shape d (couplings a d L) l
  unfolding couplings
  rows-coupled e f =
      changed-both L.shape d l room _ _ (couplings a d L) m w (sized-times d _ _ (λ p. sized-point a d L p)) (local-directions L.shape a d L.ends) e f (λ v ts A. refl)

module _ (L : Links) (K : LinksSound L) (a d : ℕ) (l : List Float) (room : work_end L.shape d ≤ length l) where
  pub built : (m w u : List Float) → m ≡ write l (matrix_at L.shape) (replicate (d * d) null) → w ≡ matrix_changed L.shape d (times (diagonal_step a d) L.shape.cameras) m →
      u ≡ matrix_changed L.shape d (couplings a d L) w →
      u ≡ write l (matrix_at L.shape) (matrix_by L (weights_in L.shape l) (load term l 0 L.shape.cameras) a d)
  unfolding matrix_by
  built m w u em ew eu =
      let D = local-diagonals L.shape a d L.shape.cameras in
      let z : length (replicate (d * d) null) ≡ d * d = length-replicate (d * d) null in
      let fw = ew ∙ changed-write L.shape d l room _ m em _ D z in
      eu ∙ changed-write L.shape d l room _ w fw _ (local-couplings L K a d) (D.sized _ _ _ z)

-- ---- the matrix of weights that agree

pub matrix-same : (L : Links) → LinksSound L → (w w' : Weights) (ts : List CameraTerm) (a d : ℕ) → AgreeOn L.shape w w' → matrix_by L w ts a d ≡ matrix_by L w' ts a d
unfolding matrix_by
matrix-same L K w w' ts a d g = rw ((local-diagonals L.shape a d L.shape.cameras).same w w' ts _ g) ((local-couplings L K a d).same w w' ts _ g)

pub length-matrix : (L : Links) → LinksSound L → (w : Weights) (ts : List CameraTerm) (a d : ℕ) → length (matrix_by L w ts a d) ≡ d * d
unfolding matrix_by
length-matrix L K w ts a d = (local-couplings L K a d).sized w ts _ ((local-diagonals L.shape a d L.shape.cameras).sized w ts _ (length-replicate (d * d) null))
