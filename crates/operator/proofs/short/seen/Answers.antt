use Rattle.operator.proofs.Buffered.{seen_done}
use Rattle.operator.proofs.short.seen.Goals as goal

pub returns : goal.returns
returns c =
    let r = rw c.ends.ensures at c.camera-c.ensures in
    let w = rw c.shape.ensures.value at c.row_weight.ensures in
    search seen_done
