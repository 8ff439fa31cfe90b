use native.Mathlib.Omega.{arith}
use Rattle.double.proofs.Order.{lt-no-nan}
use Rattle.double.proofs.Sorts.{number-pattern}
use Rattle.sqrt.proofs.guess.Goals as goal

pub float_from_bits-v : goal.float_from_bits-v
float_from_bits-v c = number-pattern _ (omega arith)

pub float_from_bits-y0 : goal.float_from_bits-y0
float_from_bits-y0 c = number-pattern _ (omega arith)

pub float_to_bits-result : goal.float_to_bits-result
float_to_bits-result c = (lt-no-nan _ _ c.if-g-2.true).0
