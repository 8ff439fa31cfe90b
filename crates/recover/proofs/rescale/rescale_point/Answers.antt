use Rattle.recover.proofs.Rescaling.{point-stored}
use Rattle.recover.proofs.rescale.rescale_point.Goals as goal

pub returns : goal.returns
returns c =
    let L = rw (c.links.ensures.value, c.rows-rows.ensures) at c.links.ensures.sound in
    let k = rw (c.links.ensures.value, c.rows-rows.ensures) at c.span-k.ensures in
    let w = rw c.rows-rows.ensures at c.list_weight-keeps.ensures in
    search (point-stored, c.requires)
