use mathlib.Core.Path.{sym, ◌∙◌}
use Rattle.double.proofs.Sorts.{greater-second, greater-past-nan, greater-first}
use Rattle.double.proofs.max.Goals as goal

pub returns-then-x-y : goal.returns-then-x-y
returns-then-x-y c = greater-second _ _ c.if-x-y.true

pub returns-then-is_nan : goal.returns-then-is_nan
returns-then-is_nan c = greater-past-nan _ _ (sym c.is_nan.ensures.value ∙ c.if-is_nan.true)

pub returns-else-is_nan : goal.returns-else-is_nan
returns-else-is_nan c = greater-first _ _ c.if-x-y.false (sym c.is_nan.ensures.value ∙ c.if-is_nan.false)
