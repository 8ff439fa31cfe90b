use Rattle.cholesky.proofs.Finished.{RowSoFar}
use Rattle.cholesky.proofs.finish_row.Given as goal

abbrev pub invariant-loop-j : goal.invariant-loop-j
invariant-loop-j l = RowSoFar l.d l.initial.a l.a l.i l.from l.j
