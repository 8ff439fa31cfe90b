use mathlib.Core.Path.{◌≡◌}
use lib.ListN.{length}
use Rattle.field.specs.Buffer.{load, store, vector}
use Rattle.field.proofs.copy3.Given as goal

abbrev pub invariant-loop-i : goal.invariant-loop-i
invariant-loop-i l = (l.dst ≡ store vector l.initial.dst l.into (load vector l.src l.from l.i)) × (length l.dst ≡ length l.initial.dst)
