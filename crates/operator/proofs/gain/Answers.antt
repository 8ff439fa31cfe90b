use Rattle.field.specs.Vec.{plus}
use Rattle.operator.proofs.Passes.{changed-anchor, changed-other}
use native.Mathlib.Omega.{arith}
use Rattle.operator.proofs.gain.Goals as goal

pub returns-then-c-f : goal.returns-then-c-f
returns-then-c-f c = changed-other plus _ _ _ _ _ _ _ (omega arith) c.if-c-f.true (omega arith) c.gain3.ensures

pub returns-else-c-f : goal.returns-else-c-f
returns-else-c-f c = changed-anchor plus _ c.args.work.now _ _ _ _ _ (omega arith) (omega arith)
