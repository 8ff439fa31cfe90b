use Rattle.iterative.specs.Method.{allowed_of}
use Rattle.iterative.proofs.components.allowed.Goals as goal

pub returns : goal.returns
unfolding allowed_of
returns c = rw (c.allowed_one.ensures, c.allowed_one-2.ensures, c.allowed_one-3.ensures)
