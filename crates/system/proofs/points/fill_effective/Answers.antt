use native.Mathlib.Omega.{arith}
use Rattle.field.proofs.Buffers.{store-none}
use Rattle.system.proofs.Sums.{weights-more, weights-filled}
use Rattle.system.proofs.points.fill_effective.Goals as goal

pub loop-r-init : goal.loop-r-init
loop-r-init c = search store-none

pub loop-r-preserved : goal.loop-r-preserved
loop-r-preserved c = search weights-more

pub returns : goal.returns
returns c = weights-filled _ _ _ _ _ _ _ c.shape-s.ensures.value c.effective_at-into.ensures c.requires c.loop-r.invariant (omega arith) (omega arith) (omega arith)
