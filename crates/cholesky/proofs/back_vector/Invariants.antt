use Prim.Native.Nat.{◌*◌, ◌-◌, suc}
use Rattle.cholesky.specs.Cholesky.{back_step}
use Rattle.field.specs.Buffer.{load, vector}
use Rattle.field.specs.Count.{upto}
use lib.ListN.{take}
use mathlib.Core.Path.{◌≡◌}
use Rattle.cholesky.proofs.back_vector.Given as goal

abbrev pub invariant-loop-k : goal.invariant-loop-k
invariant-loop-k l = l.v ≡ upto (back_step l.d (take (l.d * l.d) l.s) (load vector l.s (l.d * l.d) l.d) l.i) (l.k - suc l.i) l.initial.v
