use Prim.Native.Nat.{◌-◌, ◌≤◌}
use Rattle.cholesky.specs.inner.Stages.{Reached}
use lib.ListN.{length}
use mathlib.Core.Path.{◌≡◌}
use Rattle.cholesky.proofs.factor_columns.Given as goal

abbrev pub invariant-loop-rows : goal.invariant-loop-rows
invariant-loop-rows l =
    (l.j ≤ l.rows) × (l.rows ≤ l.d) × (length l.a ≡ length l.initial.a) × Reached l.d l.initial.a l.a l.rows l.j

abbrev pub decreases-loop-rows : goal.decreases-loop-rows
decreases-loop-rows l = l.d - l.j
