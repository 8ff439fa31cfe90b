use Rattle.std.proofs.Common.{◌≡◌}
use Rattle.field.specs.Buffer.{load, vector}
use Rattle.field.specs.Count.{upto}
use Rattle.field.specs.Vec.{origin}
use Rattle.system.specs.inner.Formed.{weights_in}
use Rattle.operator.specs.Operator.{mean_step}
use Rattle.operator.proofs.point_sum.Given as goal

abbrev pub invariant-loop-i : goal.invariant-loop-i
invariant-loop-i l =
    l.sum ≡ upto (mean_step l.links.ends l.links.listed l.k (weights_in l.links.shape l.work) (load vector l.work l.from l.links.shape.cameras)) l.i origin
