use native.Mathlib.Omega.{arith}
use Rattle.double.proofs.Order.{lt-no-nan}
use Rattle.double.proofs.Sorts.{number-pattern}
use Rattle.sqrt.proofs.Signs.{bits_pos, root-by-pattern, root-of-infinity, root-negative, root-neither}
use Rattle.sqrt.proofs.sqrt.Goals as goal

pub float_to_bits-b : goal.float_to_bits-b
float_to_bits-b c = (lt-no-nan _ _ c.if-x.true).1

pub root_bits-requires : goal.root_bits-requires
root_bits-requires c = (search bits_pos, c.if-b-lt9218868437227405312.true)

pub float_from_bits-result : goal.float_from_bits-result
float_from_bits-result c = number-pattern _ (omega arith)

pub returns-then-b-lt9218868437227405312 : goal.returns-then-b-lt9218868437227405312
returns-then-b-lt9218868437227405312 c = search root-by-pattern

pub returns-else-b-lt9218868437227405312 : goal.returns-else-b-lt9218868437227405312
returns-else-b-lt9218868437227405312 c = search root-of-infinity

pub returns-then-x-2 : goal.returns-then-x-2
returns-then-x-2 c = search root-negative

pub returns-else-x-2 : goal.returns-else-x-2
returns-else-x-2 c = search root-neither
