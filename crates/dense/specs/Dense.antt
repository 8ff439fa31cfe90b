-- The dense solve of the system that the network forms (document 01, 'Dense'; the Rust's `solve_reduced_dense`).
use Rattle.std.specs.Prelude.{ℕ, ◌-◌, List, Float, Option, Some, None, Result, Ok}
use Rattle.field.specs.declared.Vec3.{Vec3}
use Rattle.field.specs.Vec.{origin, at}
use Rattle.field.specs.Count.{field}
use Rattle.network.specs.declared.Shape.{Shape}
use Rattle.network.specs.Network.{Network, Links}
use Rattle.system.specs.declared.CameraTerm.{CameraTerm}
use Rattle.system.specs.System.{Weights, terms, term_at, anchor}
use Rattle.cholesky.specs.declared.Breakdown.{Breakdown}
use Rattle.cholesky.specs.Cholesky.{then, solution}
use Rattle.dense.specs.declared.rows.DenseRow.{DenseRow}
use Rattle.dense.specs.Rows.{dense_row, camera_of}
use Rattle.dense.specs.Matrix.{matrix_by, matrix}

-- d = n - 1
abbrev pub dimension : Shape → ℕ
dimension s = s.cameras - 1

-- the right side of row i: that of its camera, whose term is among ts
abbrev pub right_of : ℕ → List CameraTerm → ℕ → Vec3
right_of a ts i = (term_at ts (camera_of i a)).right

-- a camera's vector of a solution x: its row's, and zero at the anchor
abbrev pub row_vector : List Vec3 → Option DenseRow → Vec3
row_vector x None = origin
row_vector x (Some p) = at x p.0

abbrev pub camera_vector : ℕ → List Vec3 → ℕ → Vec3
camera_vector a x c = row_vector x (dense_row c a)

-- the vectors of the n cameras
unfoldable pub spread : ℕ → ℕ → List Vec3 → Result (List Vec3) Breakdown
spread n a x = Ok (field n (camera_vector a x))

-- the cameras of a matrix A and the terms' right sides, or a breakdown at a dense row
unfoldable pub cameras_by : Shape → ℕ → List CameraTerm → List Float → Result (List Vec3) Breakdown
cameras_by s a ts A = let d = dimension s in then (solution d A (field d (right_of a ts))) (spread s.cameras a)

-- of links, weights and terms, with the anchor a
unfoldable pub dense_solution_by : Links → Weights → List CameraTerm → ℕ → Result (List Vec3) Breakdown
dense_solution_by L w ts a = cameras_by L.shape a ts (matrix_by L w ts a (dimension L.shape))

-- the network's own
unfoldable pub dense_solution : Network → Result (List Vec3) Breakdown
dense_solution net = cameras_by net.shape (anchor net) (terms net) (matrix net (anchor net) (dimension net.shape))
