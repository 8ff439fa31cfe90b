use Rattle.cholesky.proofs.Substitution.{BackRows}
use Rattle.cholesky.proofs.back.Given as goal

abbrev pub invariant-loop-i : goal.invariant-loop-i
invariant-loop-i l = BackRows l.d l.initial.s l.s l.i
