use native.Mathlib.Omega.{arith}
use Rattle.dense.proofs.Indices.{within-dense}
use Rattle.dense.proofs.Steps.{diagonal-anchor, diagonal-dense}
use Rattle.dense.proofs.matrix.set_diagonal.Goals as goal

pub returns-in_default : goal.returns-in_default
returns-in_default c = search diagonal-anchor

pub lower_place-k-requires : goal.lower_place-k-requires
lower_place-k-requires c = (search within-dense, search within-dense, omega arith)

pub returns : goal.returns
returns c = search diagonal-dense
