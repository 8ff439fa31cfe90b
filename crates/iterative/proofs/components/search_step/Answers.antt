use Rattle.iterative.specs.Method.{search_step}
use Rattle.iterative.proofs.components.search_step.Goals as goal

pub returns : goal.returns
unfolding search_step
returns c = rw (c.search_one.ensures, c.search_one-2.ensures, c.search_one-3.ensures)
