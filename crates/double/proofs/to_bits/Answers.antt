use mathlib.Core.Path.{sym, ◌∙◌}
use Rattle.double.proofs.Sorts.{nan-bits, no_nan}
use Rattle.double.proofs.to_bits.Goals as goal

pub returns-then-is_nan : goal.returns-then-is_nan
returns-then-is_nan c = nan-bits _ (sym c.is_nan.ensures.value ∙ c.if-is_nan.true)

pub float_to_bits-result : goal.float_to_bits-result
float_to_bits-result c = no_nan _ (sym c.is_nan.ensures.value ∙ c.if-is_nan.false)
