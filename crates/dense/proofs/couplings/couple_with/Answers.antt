use Rattle.dense.proofs.Changes.{changes-none}
use Rattle.dense.proofs.Steps.{with-more}
use Rattle.dense.proofs.couplings.couple_with.Goals as goal

pub loop-j-init : goal.loop-j-init
loop-j-init c = search changes-none

pub loop-j-preserved : goal.loop-j-preserved
loop-j-preserved c = let p = rw c.ends-e.ensures at c.couple_pair.ensures in search with-more
