use Rattle.iterative.specs.Opening.{Opened}
use Rattle.iterative.proofs.ends.open.Given as goal

abbrev pub invariant-loop-i : goal.invariant-loop-i
invariant-loop-i l =
    Opened l.frame.shape l.frame.anchor l.i l.initial.work l.work l.sums.right l.sums.old
