use Rattle.recover.specs.Calls.{buffers_fit}
use Rattle.std.proofs.Math.Bool.{and_assoc}
use Rattle.recover.proofs.entry.buffers_fit.Goals as goal

pub returns : goal.returns
unfolding buffers_fit
returns c = simp and_assoc cc
