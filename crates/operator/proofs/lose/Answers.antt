use Rattle.field.specs.Vec.{minus}
use Rattle.operator.proofs.Passes.{changed-anchor, changed-other}
use native.Mathlib.Omega.{arith}
use Rattle.operator.proofs.lose.Goals as goal

pub returns-then-c-f : goal.returns-then-c-f
returns-then-c-f c = changed-other minus _ _ _ _ _ _ _ (omega arith) c.if-c-f.true (omega arith) (cc)

pub returns-else-c-f : goal.returns-else-c-f
returns-else-c-f c = changed-anchor minus _ c.args.work.now _ _ _ _ _ (omega arith) (omega arith)
