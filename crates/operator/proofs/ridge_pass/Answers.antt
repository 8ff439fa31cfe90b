use native.Mathlib.Omega.{arith}
use Rattle.field.proofs.Fills.{fill_none}
use Rattle.operator.proofs.Passes.{ridge-more}
use Rattle.operator.proofs.ridge_pass.Goals as goal

pub loop-i-init : goal.loop-i-init
loop-i-init c = search fill_none

pub loop-i-preserved : goal.loop-i-preserved
loop-i-preserved c = search (ridge-more, arith)
