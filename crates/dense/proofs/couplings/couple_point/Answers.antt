use native.Mathlib.Omega.{arith}
use Rattle.dense.proofs.Changes.{changes-none}
use Rattle.dense.proofs.Steps.{point-skipped, point-coupled, places-more}
use Rattle.dense.proofs.couplings.couple_point.Goals as goal

pub returns-then-w : goal.returns-then-w
returns-then-w c = let w = rw c.shape.ensures.value at c.point_weight-w.ensures in search point-skipped

pub loop-i-init : goal.loop-i-init
loop-i-init c = search changes-none

pub loop-i-preserved : goal.loop-i-preserved
loop-i-preserved c = search places-more

pub returns : goal.returns
returns c = let w = rw c.shape.ensures.value at c.point_weight-w.ensures in search (point-coupled, arith)
