use Rattle.recover.specs.Recover.{dots_of}
use Rattle.recover.proofs.dots.Goals as goal

pub returns : goal.returns
returns c = c.enter_and_fill.ensures dots_of (λ i o p h. h)
