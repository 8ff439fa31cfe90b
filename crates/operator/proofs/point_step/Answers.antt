use Rattle.operator.proofs.Passes.{point-skipped, point-met}
use Rattle.operator.proofs.point_step.Goals as goal

pub returns-then-w : goal.returns-then-w
returns-then-w c = let w = rw c.shape.ensures.value at c.point_weight-w.ensures in search point-skipped

pub returns : goal.returns
returns c = let w = rw c.shape.ensures.value at c.point_weight-w.ensures in search point-met
