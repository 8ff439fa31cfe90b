use Rattle.recover.proofs.Rescaling.{directions_none, directions-more}
use Rattle.recover.proofs.rescale.rescale_directions.Goals as goal

pub loop-r-init : goal.loop-r-init
loop-r-init c = rw (c.shape-s.ensures.value, c.rows-rows.ensures) (search directions_none)

pub loop-r-preserved : goal.loop-r-preserved
loop-r-preserved c =
    let b = rw (c.shape-s.ensures.value, c.rows-rows.ensures) at c.loop-r.near-r in
    let k = rw (c.shape-s.ensures.value, c.weight.ensures, c.rows-rows.ensures) at c.keeps_direction-keeps.ensures in
    search directions-more
