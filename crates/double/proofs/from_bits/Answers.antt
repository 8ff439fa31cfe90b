use native.Mathlib.Omega.{arith}
use Rattle.double.proofs.Sorts.{number-pattern, decoded-finite, decoded-infinite, decoded-nan}
use Rattle.double.proofs.from_bits.Goals as goal

pub float_from_bits-result : goal.float_from_bits-result
float_from_bits-result c = number-pattern _ (omega arith)

pub returns-then-exponent-lt2047 : goal.returns-then-exponent-lt2047
returns-then-exponent-lt2047 c = decoded-finite _ c.if-exponent-lt2047.true

pub returns-then-b-eq0 : goal.returns-then-b-eq0
returns-then-b-eq0 c = decoded-infinite _ c.if-exponent-lt2047.false c.if-b-eq0.true

pub returns : goal.returns
returns c = decoded-nan _ c.if-exponent-lt2047.false c.if-b-eq0.false
