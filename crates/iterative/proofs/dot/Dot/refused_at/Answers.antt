use Rattle.iterative.specs.Method.{sum_test}
use Rattle.iterative.proofs.dot.Dot.refused_at.Goals as goal

pub returns-in-Some : goal.returns-in-Some
unfolding sum_test
returns-in-Some c = rw (c.in-Some.is, c.camera.ensures)

pub returns-in-None : goal.returns-in-None
unfolding sum_test
returns-in-None c = rw c.in-None.is
