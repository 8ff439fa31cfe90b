use Rattle.iterative.specs.Method.{bound_of}
use Rattle.iterative.proofs.components.bound.Goals as goal

pub returns : goal.returns
unfolding bound_of
returns c = rw (c.bound_one.ensures, c.bound_one-2.ensures, c.bound_one-3.ensures)
