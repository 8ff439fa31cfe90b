use Rattle.records.proofs.Reading.{reading-more, digit-fits, times-fits, read-most, read-other}
use native.Mathlib.Omega.{arith}
use Rattle.records.proofs.text.read_digits.Goals as goal

pub returns-in_default : goal.returns-in_default
returns-in_default c = read-other _ _ _ _ _ c.loop-count.invariant c.digit_at.ensures c.loop-count-test.true c.in_default.is

pub overflow_mul-value : goal.overflow_mul-value
overflow_mul-value c = search (times-fits, c.in-Some.is)

pub overflow_add-value : goal.overflow_add-value
overflow_add-value c = search (digit-fits, c.in-Some.is)

pub loop-count-preserved : goal.loop-count-preserved
loop-count-preserved c = search (reading-more, c.in-Some.is)

pub returns : goal.returns
returns c = read-most _ _ _ _ _ c.loop-count.invariant (omega arith)
