use native.Mathlib.Omega.{arith}
use Rattle.dense.proofs.Indices.{within-row}
use Rattle.dense.proofs.Steps.{diagonal-set}
use Rattle.dense.proofs.matrix.camera_diagonal.Goals as goal

pub set_diagonal-requires : goal.set_diagonal-requires
set_diagonal-requires c = (omega arith, search within-row)

pub returns : goal.returns
returns c = search diagonal-set
