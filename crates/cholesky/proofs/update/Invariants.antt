use Prim.Native.Nat.{◌+◌, ◌≤◌}
use Rattle.cholesky.specs.inner.Stages.{Updated}
use Rattle.cholesky.proofs.update.Given as goal

abbrev pub invariant-loop-from : goal.invariant-loop-from
invariant-loop-from l = (l.from ≤ l.rows) × Updated l.d l.initial.a l.a l.j (l.j + 4) l.from l.rows
