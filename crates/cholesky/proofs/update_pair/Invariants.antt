use Rattle.cholesky.specs.inner.Stages.{PairUpdated}
use Rattle.cholesky.proofs.update_pair.Given as goal

abbrev pub invariant-loop-t : goal.invariant-loop-t
invariant-loop-t l = PairUpdated l.c.size l.initial.a l.a l.i l.c.from l.t l.t l.x l.y l.c.packed.now
