use Prim.Native.Nat.{◌+◌, ◌-◌, ◌%◌, ◌≤◌}
use Rattle.cholesky.specs.inner.Stages.{RowsUpdated}
use mathlib.Core.Path.{◌≡◌}
use Rattle.cholesky.proofs.update_rows.Given as goal

abbrev pub invariant-loop-i : goal.invariant-loop-i
invariant-loop-i l = (l.i ≤ l.rows) × ((l.i - l.c.from) % 2 ≡ 1) × RowsUpdated l.c.size l.initial.a l.a l.c.panel l.c.from l.c.count (l.c.from + 1) l.i l.c.packed.now
