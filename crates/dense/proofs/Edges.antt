-- 'Route 1 with limit 1 gives 15 at row 0', and 'limit 2: route 1 gives 16 at row 1'. By computing; assumes nothing.
use mathlib.Core.Path.{◌≡◌, refl}
use Rattle.sqrt.specs.Root.{root}
use Rattle.system.specs.Edges.{directed, pair, triple}
use Rattle.system.proofs.Computing.{assembly}
use Rattle.std.proofs.Common.{Err}
use Rattle.cholesky.specs.declared.Breakdown.TheVariants.{Pivot, Factor}
use Rattle.cholesky.specs.Cholesky.{run, remainder, factor_entry, pivot, factor_row, factor, solution}
use Rattle.dense.specs.Rows.{dense_row}
use Rattle.dense.specs.Matrix.{times, set_diagonal, couple, diagonal_step, couple_cameras, pair_step, place_step, point_step, direction_step, couplings, matrix_by}
use Rattle.dense.specs.Dense.{cameras_by, dense_solution}

-- what a dense solve is computed with
unfoldable computing : Unit {0}
unfolding assembly root dense_solution cameras_by solution factor factor_row factor_entry pivot run remainder
    matrix_by couplings point_step place_step pair_step direction_step diagonal_step couple_cameras set_diagonal couple times dense_row
computing = tt

pub pair-stops : dense_solution pair ≡ Err (Pivot 0)
unfolding computing directed
pair-stops = refl

pub triple-stops : dense_solution triple ≡ Err (Factor 1)
unfolding computing triple
triple-stops = refl
