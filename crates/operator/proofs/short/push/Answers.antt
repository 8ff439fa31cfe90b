use mathlib.Core.Path.{◌∙◌}
use Rattle.operator.proofs.short.push.Goals as goal

pub returns : goal.returns
returns c = c.gain.ensures ∙ rw c.pull.ensures
