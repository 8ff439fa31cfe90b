use native.Mathlib.Omega.{arith}
use Rattle.dense.proofs.Placing.{right-none, right-more, right-ended}
use Rattle.dense.proofs.cameras.fill_right.Goals as goal

pub loop-c-init : goal.loop-c-init
loop-c-init c = search right-none

pub loop-c-preserved : goal.loop-c-preserved
loop-c-preserved c = search right-more

pub returns : goal.returns
returns c = search (right-ended, arith)
