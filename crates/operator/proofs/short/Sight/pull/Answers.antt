use mathlib.Core.Path.{◌∙◌}
use Rattle.operator.proofs.short.Sight.pull.Goals as goal

pub returns : goal.returns
returns c = c.mul.ensures ∙ rw c.sub.ensures
