use Rattle.cholesky.specs.inner.Stages.{RowUpdated}
use Rattle.cholesky.proofs.update_row.Given as goal

abbrev pub invariant-loop-t : goal.invariant-loop-t
invariant-loop-t l = RowUpdated l.c.size l.initial.a l.a l.i l.c.from l.t l.x l.c.packed.now
