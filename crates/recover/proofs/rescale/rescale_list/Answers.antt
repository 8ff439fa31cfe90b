use Rattle.recover.proofs.Stores.{stored-none}
use Rattle.recover.proofs.Rescaling.{list-more}
use Rattle.recover.proofs.rescale.rescale_list.Goals as goal

pub loop-j-init : goal.loop-j-init
loop-j-init c = search stored-none

pub loop-j-preserved : goal.loop-j-preserved
loop-j-preserved c = let r = rw (c.links-links.ensures.value, c.rows.ensures) at c.listed-r.ensures in search list-more
