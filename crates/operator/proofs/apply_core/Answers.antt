use Rattle.operator.proofs.Passes.{reduced-done}
use Rattle.operator.proofs.apply_core.Goals as goal

pub returns : goal.returns
returns c =
    let r = rw c.shape.ensures.value at c.ridge_pass.ensures in
    let d = rw c.ends.ensures at c.directions_pass.ensures in
    search reduced-done
