use Prim.Native.Nat.{◌*◌}
use Rattle.cholesky.specs.Cholesky.{forward_row}
use Rattle.field.specs.Buffer.{load, store, vector}
use Rattle.field.specs.Count.{upto}
use lib.ListN.{take}
use mathlib.Core.Path.{◌≡◌}
use Rattle.cholesky.proofs.forward.Given as goal

abbrev pub invariant-loop-i : goal.invariant-loop-i
invariant-loop-i l = l.s ≡ store vector l.initial.s (l.d * l.d) (upto (forward_row l.d (take (l.d * l.d) l.initial.s)) l.i (load vector l.initial.s (l.d * l.d) l.d))
