use Prim.Native.Nat.{◌≤◌}
use native.Mathlib.Omega.{arith}
use Rattle.cholesky.proofs.Panels.{panel-ended, panel-more, panel-none, panel-stopped}
use Rattle.cholesky.proofs.panel.Goals as goal

pub loop-i-init : goal.loop-i-init
loop-i-init c = search panel-none

pub returns-then-not-panel_row : goal.returns-then-not-panel_row
returns-then-not-panel_row c = search panel-stopped

pub loop-i-preserved : goal.loop-i-preserved
loop-i-preserved c = search panel-more

pub returns : goal.returns
returns c = let h : c.loop-i.i ≤ c.args.rows = omega arith in search panel-ended
