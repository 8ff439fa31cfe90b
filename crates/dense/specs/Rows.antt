-- The rows of the dense system: 'the cameras without the anchor, in order' (document 01, 'Dense'; the Rust's `reduced_index`).
use Rattle.std.specs.Prelude.{ℕ, ◌+◌, ◌-◌, cond, eqb, ltb, Option, Some, None}
use Rattle.dense.specs.declared.rows.DenseRow.{DenseRow}

-- a camera's row: a camera below the anchor has its own number, one above it the number before
unfoldable pub dense_row : ℕ → ℕ → Option DenseRow
dense_row camera anchor =
    cond (eqb camera anchor) None
    (cond (ltb camera anchor) (Some (record { 0 = camera })) (Some (record { 0 = camera - 1 })))

-- the camera of a row
unfoldable pub camera_of : ℕ → ℕ → ℕ
camera_of row anchor = cond (ltb row anchor) row (row + 1)
