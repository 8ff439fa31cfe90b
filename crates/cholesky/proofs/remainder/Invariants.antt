use Rattle.cholesky.specs.inner.Stages.{Reduces}
use Rattle.cholesky.proofs.remainder.Given as goal

abbrev pub invariant-loop-k : goal.invariant-loop-k
invariant-loop-k l = Reduces l.d l.a l.i l.j l.from l.k l.v
