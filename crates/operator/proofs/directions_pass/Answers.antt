use Rattle.operator.proofs.Passes.{directions-more, none}
use Rattle.operator.proofs.directions_pass.Goals as goal

pub loop-d-init : goal.loop-d-init
loop-d-init c = search none

pub loop-d-preserved : goal.loop-d-preserved
loop-d-preserved c = search directions-more
