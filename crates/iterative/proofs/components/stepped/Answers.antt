use Rattle.iterative.specs.Method.{stepped}
use Rattle.iterative.proofs.components.stepped.Goals as goal

pub returns : goal.returns
unfolding stepped
returns g c op h = rw (c.step_one.ensures op h, c.step_one-2.ensures op h, c.step_one-3.ensures op h)
