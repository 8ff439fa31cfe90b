use mathlib.Core.Path.{◌∙◌}
use Rattle.field.specs.Count.{lowest}
use Rattle.iterative.specs.Method.{bad_residual}
use Rattle.iterative.proofs.components.find_bad_residual.Goals as goal

pub returns : goal.returns
unfolding bad_residual lowest
returns c = c.lowest.ensures ∙ rw (c.bad_residual_one.ensures, c.bad_residual_one-2.ensures, c.bad_residual_one-3.ensures)
