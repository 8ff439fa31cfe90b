use native.Mathlib.Omega.{arith}
use Rattle.field.proofs.Sums.{from_bool-most}
use Rattle.std.specs.Float.Ieee.{lt}
use Rattle.system.specs.System.{two}
use Rattle.system.proofs.Terms.{few-none, few-more}
use Rattle.system.proofs.reads.count_few.Goals as goal

pub loop-c-init : goal.loop-c-init
loop-c-init c = (omega arith, search few-none)

pub loop-c-preserved : goal.loop-c-preserved
loop-c-preserved c = let h = from_bool-most (lt c.get_term.result.count two) in (omega arith, search few-more)
