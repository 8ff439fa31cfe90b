use Prim.Native.Nat.{◌*◌}
use Rattle.cholesky.specs.Cholesky.{forward_step}
use Rattle.field.specs.Buffer.{load, vector}
use Rattle.field.specs.Count.{upto}
use lib.ListN.{take}
use mathlib.Core.Path.{◌≡◌}
use Rattle.cholesky.proofs.forward_vector.Given as goal

abbrev pub invariant-loop-k : goal.invariant-loop-k
invariant-loop-k l = l.v ≡ upto (forward_step l.d (take (l.d * l.d) l.s) (load vector l.s (l.d * l.d) l.d) l.i) l.k l.initial.v
