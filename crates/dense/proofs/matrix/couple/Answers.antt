use native.Mathlib.Omega.{arith}
use Rattle.dense.proofs.Indices.{within-dense}
use Rattle.dense.proofs.Steps.{couple-dense}
use Rattle.dense.proofs.matrix.couple.Goals as goal

pub lower_place-k-requires : goal.lower_place-k-requires
lower_place-k-requires c = (search within-dense, search within-dense, omega arith)

pub returns : goal.returns
returns c = search couple-dense
