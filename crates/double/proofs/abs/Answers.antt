use mathlib.Core.Path.{◌∙◌}
use Rattle.double.proofs.Sorts.{magnitude-is}
use Rattle.double.proofs.abs.Goals as goal

pub returns : goal.returns
returns c = c.abs.ensures.value ∙ magnitude-is _
