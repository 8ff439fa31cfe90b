use Rattle.cholesky.proofs.Finished.{RowsSoFar}
use Rattle.cholesky.proofs.finish_rows.Given as goal

abbrev pub invariant-loop-i : goal.invariant-loop-i
invariant-loop-i l = RowsSoFar l.d l.initial.a l.a l.from l.to l.i
