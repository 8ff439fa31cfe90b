use mathlib.Core.Path.{sym, ◌∙◌}
use Rattle.iterative.proofs.components.bad_residual_one.Goals as goal

pub returns : goal.returns
returns c = rw (sym c.is_finite.ensures ∙ c.if-not-is_finite.false)
