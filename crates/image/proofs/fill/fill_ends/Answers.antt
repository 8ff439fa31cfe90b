use Rattle.std.proofs.Common.{arith}
use Rattle.image.specs.Reading.{wholes_from}
use Rattle.image.proofs.Fills.{all-stored}
use Rattle.image.proofs.fill.fill_ends.Goals as goal

pub returns : goal.returns
unfolding wholes_from
returns c = all-stored 0 _ _ _ _ c.loop-k.invariant (omega arith) (omega arith)
