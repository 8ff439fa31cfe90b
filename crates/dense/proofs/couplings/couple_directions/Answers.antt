use Rattle.dense.proofs.Changes.{changes-none}
use Rattle.dense.proofs.Steps.{directions-more}
use Rattle.dense.proofs.couplings.couple_directions.Goals as goal

pub loop-k-init : goal.loop-k-init
loop-k-init c = search changes-none

pub loop-k-preserved : goal.loop-k-preserved
loop-k-preserved c = let h = rw c.shape-k-end.ensures.value at c.loop-k-test.true in search directions-more
