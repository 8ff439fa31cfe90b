use native.Mathlib.Omega.{arith}
use Rattle.iterative.proofs.Opening.{opened-more, opened-none}
use Rattle.iterative.proofs.ends.open.Goals as goal

pub loop-i-init : goal.loop-i-init
loop-i-init c = search opened-none

pub loop-i-preserved : goal.loop-i-preserved
loop-i-preserved c = opened-more _ _ _ _ (omega arith) _ _ _ c.loop-i.invariant _ _ _ c.open_camera-sums.ensures
