use Rattle.system.proofs.Sums.{pulls-none, pulls-more}
use Rattle.recover.proofs.point.sum_sightings.Goals as goal

pub loop-i-init : goal.loop-i-init
loop-i-init c = search pulls-none

pub loop-i-preserved : goal.loop-i-preserved
loop-i-preserved c = let r = rw c.links-links.ensures.value at c.listed-r.ensures in search pulls-more
