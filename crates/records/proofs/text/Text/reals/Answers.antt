use native.Mathlib.Omega.{arith}
use Rattle.records.proofs.Runs.{reach-none, reach-more, reals-none, reals-more, reals-read}
use Rattle.records.proofs.text.Text.reals.Goals as goal

pub loop-x-init : goal.loop-x-init
loop-x-init c = (search reach-none, search reals-none)

pub loop-x-preserved : goal.loop-x-preserved
loop-x-preserved c = (search reach-more, search reals-more)

pub returns : goal.returns
returns c = reals-read _ _ _ _ _ _ c.word.ensures _ _ c.loop-x.invariant.0 c.end.ensures c.loop-x.invariant.1 (omega arith) (omega arith)
