use Rattle.std.proofs.Math.Bool.{and_assoc}
use Rattle.placement.specs.Routes.{buffers_fit}
use Rattle.placement.proofs.checks.buffers_fit.Goals as goal

pub returns : goal.returns
unfolding buffers_fit
returns c = simp and_assoc cc
