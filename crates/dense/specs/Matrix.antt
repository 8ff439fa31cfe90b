-- The reduced camera matrix of d = n - 1 rows, its lower triangle, row by row in a list of d × d numbers (document 01, 'Dense'; what the Rust's
-- `factor_reduced_dense` assembles).
use Rattle.std.specs.Prelude.{ℕ, ◌+◌, ◌-◌, ◌*◌, min, max, List, cond, get_or, set, replicate, Float, Option, Some, None}
use Rattle.std.specs.Float.{nan, binary64}
use Rattle.std.specs.Float.Ieee.{add, mul, div, neg, lt}
use Rattle.field.specs.Vec.{null}
use Rattle.field.specs.Count.{upto}
use Rattle.network.specs.declared.Span.{Span}
use Rattle.network.specs.Network.{Network, Links, links_of, first_end, second_end, span_of, row_at}
use Rattle.system.specs.declared.CameraTerm.{CameraTerm}
use Rattle.system.specs.System.{Weights, weights_of, terms, term_at, tiny, ridge}
use Rattle.dense.specs.declared.rows.DenseRow.{DenseRow}
use Rattle.dense.specs.Rows.{dense_row}

-- the place of the entry of two rows: the greater is its row, the other its column
abbrev pub lower_place : ℕ → DenseRow → DenseRow → ℕ
lower_place d p q = max p.0 q.0 * d + min p.0 q.0

-- a row's diagonal v with the ridge; nothing for the anchor (the Rust multiplies v by 1 + 0.0 before, which changes no double)
unfoldable pub set_diagonal : ℕ → Option DenseRow → Float → List Float → List Float
set_diagonal d None v A = A
set_diagonal d (Some p) v A = set A (lower_place d p p) (add binary64 v ridge)

-- v added to the entry of two rows, in the lower triangle; nothing where one of them is the anchor's
unfoldable pub couple : ℕ → Option DenseRow → Option DenseRow → Float → List Float → List Float
couple d None q v A = A
couple d (Some p) None v A = A
couple d (Some p) (Some q) v A = let k = lower_place d p q in set A k (add binary64 (get_or A k nan) v)

-- ---- a change of the matrix A by what the weights w and the terms ts say

abbrev pub MatrixChange : Type 0
MatrixChange = Weights → List CameraTerm → List Float → List Float

-- k changes, one after another
unfoldable pub times : (ℕ → MatrixChange) → ℕ → MatrixChange
times f k w ts A = upto (λ i. f i w ts) k A

-- -e1 × e2 / W, left to right
abbrev pub shared : Float → Float → Float → Float
shared e1 e2 t = div binary64 (mul binary64 (neg e1) e2) t

-- the places of a point's list after the i-th
abbrev pub places_after : Span → ℕ → Span
places_after k i = record { first = k.first + i + 1; size = k.size - (i + 1) }

-- a is the anchor
module _ (a d : ℕ) where
  -- the diagonal of camera c
  unfoldable pub diagonal_step : ℕ → MatrixChange
  diagonal_step c w ts A = set_diagonal d (dense_row c a) (term_at ts c).diagonal A

  -- v added to the entry of cameras i and j (`add_dense_coupling`)
  unfoldable pub couple_cameras : ℕ → ℕ → Float → MatrixChange
  couple_cameras i j v w ts A = couple d (dense_row i a) (dense_row j a) v A

  -- two bearings r and q of a point of weight t. Where both are of one camera, it is added once, on the diagonal.
  unfoldable pub pair_step : List ℕ → Float → ℕ → ℕ → MatrixChange
  pair_step ends t r q w = couple_cameras (first_end ends r) (first_end ends q) (shared (w.row r) (w.row q) t) w

  -- bearing r with that at place j of such places
  abbrev pub with_step : List ℕ → List ℕ → Float → ℕ → Span → ℕ → MatrixChange
  with_step ends listed t r k j = pair_step ends t r (row_at listed k j)

  -- the bearing at place i of such places with each after it
  unfoldable pub place_step : List ℕ → List ℕ → Float → Span → ℕ → MatrixChange
  place_step ends listed t k i = times (with_step ends listed t (row_at listed k i) (places_after k i)) (places_after k i).size

  -- point p, pair by pair in list order; a point whose weight is below 1e-12 couples nothing
  unfoldable pub point_step : Links → ℕ → MatrixChange
  point_step L p w ts A =
      let k = span_of L.offsets p in
      cond (lt (w.point p) tiny) A (times (place_step L.ends L.listed (w.point p) k) k.size w ts A)

  -- direction k, after b bearings: -e
  unfoldable pub direction_step : ℕ → List ℕ → ℕ → MatrixChange
  direction_step b ends k w = let r = b + k in couple_cameras (first_end ends r) (second_end ends r) (neg (w.row r)) w

  -- the couplings, point by point, then direction by direction
  unfoldable pub couplings : Links → MatrixChange
  couplings L w ts A =
      let s = L.shape in
      times (direction_step s.bearings L.ends) s.directions w ts (times (point_step L) s.points w ts A)

-- the cameras' diagonals in a matrix of +0.0, then the couplings
unfoldable pub matrix_by : Links → Weights → List CameraTerm → ℕ → ℕ → List Float
matrix_by L w ts a d = couplings a d L w ts (times (diagonal_step a d) L.shape.cameras w ts (replicate (d * d) null))

-- the network's own
abbrev pub matrix : Network → ℕ → ℕ → List Float
matrix net a d = matrix_by (links_of net) (weights_of net) (terms net) a d
