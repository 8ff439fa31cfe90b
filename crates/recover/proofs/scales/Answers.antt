use Rattle.recover.specs.Recover.{scales_of}
use Rattle.recover.proofs.scales.Goals as goal

pub returns : goal.returns
returns c = c.enter_and_fill.ensures scales_of (λ i o p h. h)
