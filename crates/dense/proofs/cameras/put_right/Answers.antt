use native.Mathlib.Omega.{arith}
use Rattle.dense.proofs.Indices.{row-inside}
use Rattle.dense.proofs.Placing.{put-anchor, put-dense}
use Rattle.dense.proofs.cameras.put_right.Goals as goal

pub returns-in_default : goal.returns-in_default
returns-in_default c = search put-anchor

pub vector_place-requires-clause-size_bound : goal.vector_place-requires-clause-size_bound
vector_place-requires-clause-size_bound c = (search row-inside, omega arith)

pub returns : goal.returns
returns c = search put-dense
