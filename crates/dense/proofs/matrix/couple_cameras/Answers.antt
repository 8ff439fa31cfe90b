use native.Mathlib.Omega.{arith}
use Rattle.dense.proofs.Indices.{within-row}
use Rattle.dense.proofs.Steps.{cameras-coupled}
use Rattle.dense.proofs.matrix.couple_cameras.Goals as goal

pub couple-requires : goal.couple-requires
couple-requires c = (omega arith, search within-row, search within-row)

pub returns : goal.returns
returns c = search cameras-coupled
