use Rattle.system.proofs.Forming.{formed}
use Rattle.system.proofs.form.Goals as goal

pub returns : goal.returns
returns c =
    let n = rw (c.shape.ensures.value, c.links.ensures.value) at c.pick_anchor.ensures in
    let L = rw c.links.ensures.value at c.links.ensures.sound in
    search formed
