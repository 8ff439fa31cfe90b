use Rattle.std.proofs.Common.{arith}
use lib.Ieee.{nan}
use Rattle.image.specs.Reading.{doubles_from}
use Rattle.image.proofs.Fills.{all-stored}
use Rattle.image.proofs.fill.fill_doubles.Goals as goal

pub returns : goal.returns
unfolding doubles_from
returns c = all-stored nan _ _ _ _ c.loop-k.invariant (omega arith) (omega arith)
