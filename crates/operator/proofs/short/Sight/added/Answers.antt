use mathlib.Core.Path.{◌∙◌}
use Rattle.operator.proofs.short.Sight.added.Goals as goal

pub returns : goal.returns
returns c = c.add.ensures ∙ rw c.mul.ensures
