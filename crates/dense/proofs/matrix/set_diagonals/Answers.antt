use Rattle.dense.proofs.Changes.{changes-none}
use Rattle.dense.proofs.Steps.{diagonals-more}
use Rattle.dense.proofs.matrix.set_diagonals.Goals as goal

pub loop-c-init : goal.loop-c-init
loop-c-init c = search changes-none

pub loop-c-preserved : goal.loop-c-preserved
loop-c-preserved c = search diagonals-more
