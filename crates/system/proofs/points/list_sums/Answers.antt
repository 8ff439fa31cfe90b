use Rattle.system.proofs.Sums.{weight-none, weight-more, pulls-none, pulls-more}
use Rattle.system.proofs.points.list_sums.Goals as goal

pub loop-i-init : goal.loop-i-init
loop-i-init c = (search weight-none, search pulls-none)

pub loop-i-preserved : goal.loop-i-preserved
loop-i-preserved c = let r = rw c.links-links.ensures.value at c.listed-r.ensures in (search weight-more, search pulls-more)
