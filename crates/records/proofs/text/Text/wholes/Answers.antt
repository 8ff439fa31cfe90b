use native.Mathlib.Omega.{arith}
use Rattle.records.proofs.Runs.{reach-none, reach-more, wholes-none, wholes-more, wholes-read}
use Rattle.records.proofs.text.Text.wholes.Goals as goal

pub loop-x-init : goal.loop-x-init
loop-x-init c = (search reach-none, search wholes-none)

pub loop-x-preserved : goal.loop-x-preserved
loop-x-preserved c = (search reach-more, search wholes-more)

pub returns : goal.returns
returns c = wholes-read _ _ _ _ _ _ c.word.ensures _ _ c.loop-x.invariant.0 c.end.ensures c.loop-x.invariant.1 (omega arith) (omega arith)
