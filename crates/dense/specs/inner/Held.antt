-- What the functions of this crate require, and what they leave in the work buffer. l is the buffer before, l' after, r the answer.
use Rattle.std.specs.Prelude.{ℕ, ◌+◌, ◌*◌, ◌≤◌, ◌<◌, ◌≡◌, List, length, drop, Float, Option, Some, None, Result}
use Rattle.field.specs.declared.Vec3.{Vec3}
use Rattle.field.specs.Count.{field}
use Rattle.field.specs.Buffer.{part, write, put, load, vector}
use Rattle.network.specs.declared.Shape.{Shape}
use Rattle.network.specs.Network.{rows}
use Rattle.network.specs.inner.Sound.{ShapeSound}
use Rattle.system.specs.declared.CameraTerm.{CameraTerm}
use Rattle.system.specs.Work.{positions_at, weights_at, effective_at, matrix_at, dense_right_at, work_end, term}
use Rattle.system.specs.inner.Formed.{weights_in}
use Rattle.cholesky.specs.declared.Breakdown.{Breakdown}
use Rattle.cholesky.specs.Cholesky.{then, ended, factor, substitution}
use Rattle.dense.specs.declared.rows.DenseRow.{DenseRow}
use Rattle.dense.specs.declared.rows.DenseSystem.{DenseSystem}
use Rattle.dense.specs.Matrix.{MatrixChange}
use Rattle.dense.specs.Dense.{right_of, spread}

-- ---- what is required

-- a row of a system of d rows
abbrev pub RowWithin : ℕ → Option DenseRow → Type 0
RowWithin d None = Unit
RowWithin d (Some p) = p.0 < d

-- m is of the shape s and has n - 1 rows, and a buffer of so many numbers has room for its matrix and its right side
pub record SystemRoom (s : Shape) (m : DenseSystem) (size : ℕ) : Type 0 where
  pub shape : m.shape ≡ s
  pub sound : ShapeSound s
  pub anchor : m.anchor < s.cameras
  pub dimension : m.size + 1 ≡ s.cameras
  pub room : work_end s m.size ≤ size

-- ---- the matrix and the right side

-- the buffer with its matrix of d rows changed by F, of the weights and the terms in it
unfoldable pub matrix_changed : Shape → ℕ → MatrixChange → List Float → List Float
matrix_changed s d F l =
    write l (matrix_at s) (F (weights_in s l) (load term l 0 s.cameras) (part l (matrix_at s) (d * d)))

-- the buffer with a row's vector v among those from place p on
unfoldable pub put_row : ℕ → Option DenseRow → Vec3 → List Float → List Float
put_row p None v l = l
put_row p (Some q) v l = put vector l (p + 3 * q.0) v

-- ---- the solve

-- the cameras of a factor A, for the terms' right sides
abbrev pub cameras_of : Shape → ℕ → ℕ → List CameraTerm → List Float → Result (List Vec3) Breakdown
cameras_of s a d ts A = then (substitution d (field d (right_of a ts)) A) (spread s.cameras a)

-- l' is l in all that stands in the system's segments, and past the dense ones
pub record DenseKept (s : Shape) (d : ℕ) (l l' : List Float) : Type 0 where
  pub terms : load term l' 0 s.cameras ≡ load term l 0 s.cameras
  pub points : part l' (weights_at s) s.points ≡ part l (weights_at s) s.points
  pub rows : part l' (effective_at s) (rows s) ≡ part l (effective_at s) (rows s)
  pub surplus : drop (work_end s d) l' ≡ drop (work_end s d) l
  pub size : length l' ≡ length l

-- the matrix is factored in its place
pub record MatrixFactored (s : Shape) (d : ℕ) (l l' : List Float) (r : Result (Unit {0}) Breakdown) : Type 0 where
  pub answer : ended r (part l' (matrix_at s) (d * d)) ≡ factor d (part l (matrix_at s) (d * d))
  pub kept : DenseKept s d l l'

-- the right side's place has the solution for the factor that stands before it
pub record RightSolved (s : Shape) (d : ℕ) (l l' : List Float) (r : Result (Unit {0}) Breakdown) : Type 0 where
  pub answer : ended r (load vector l' (dense_right_at s d) d) ≡ substitution d (load vector l (dense_right_at s d) d) (part l (matrix_at s) (d * d))
  pub kept : DenseKept s d l l'

-- where nothing is refused, the positions' segment has the cameras of x
pub record DenseSolved (s : Shape) (d : ℕ) (x : Result (List Vec3) Breakdown) (l l' : List Float) (r : Result (Unit {0}) Breakdown) : Type 0 where
  pub answer : ended r (load vector l' (positions_at s) s.cameras) ≡ x
  pub kept : DenseKept s d l l'
