use Rattle.cholesky.proofs.Panels.{PanelSoFar}
use Rattle.cholesky.proofs.panel.Given as goal

abbrev pub invariant-loop-i : goal.invariant-loop-i
invariant-loop-i l = PanelSoFar l.d l.initial.a l.a l.j l.rows l.i
