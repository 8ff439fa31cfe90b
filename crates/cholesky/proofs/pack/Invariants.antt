use Rattle.cholesky.specs.inner.Stages.{Packed}
use lib.ListN.{length}
use mathlib.Core.Path.{◌≡◌}
use Rattle.cholesky.proofs.pack.Given as goal

abbrev pub invariant-loop-t : goal.invariant-loop-t
invariant-loop-t l = (length l.p ≡ 1024) × Packed l.d l.a l.j l.from l.t l.p
