use Rattle.field.specs.Buffer.{load}
use Rattle.system.specs.Work.{term}
use Rattle.system.proofs.Anchor.{Best-of}
use Rattle.system.proofs.assembly.pick_anchor.Given as goal

abbrev pub invariant-loop-c : goal.invariant-loop-c
invariant-loop-c l = Best-of (load term l.work 0 l.n) l.c l.best
