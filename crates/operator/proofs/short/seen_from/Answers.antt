use Rattle.operator.proofs.Sights.{seen-none, seen-more}
use native.Mathlib.Omega.{arith}
use Rattle.std.proofs.lemmas.List.{length-replicate}
use lib.ListN.{length-set}
use Rattle.operator.proofs.short.seen_from.Goals as goal

pub loop-i-init : goal.loop-i-init
loop-i-init g c = (length-replicate _ _, search seen-none)

pub loop-i-preserved : goal.loop-i-preserved
loop-i-preserved g c = let I = c.loop-i.invariant in (rw length-set I.0, seen-more _ _ _ _ _ _ _ _ _ (omega (arith, I.0)) I.1 c.seen.ensures)
