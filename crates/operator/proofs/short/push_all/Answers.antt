use Rattle.operator.proofs.Sights.{push-none, push-more}
use native.Mathlib.Omega.{arith}
use Rattle.operator.proofs.short.push_all.Goals as goal

pub loop-s-init : goal.loop-s-init
loop-s-init g c = search (push-none, arith)

pub loop-s-preserved : goal.loop-s-preserved
loop-s-preserved g c = search (push-more, arith)
