use mathlib.Core.Path.{◌∙◌}
use Rattle.field.specs.Count.{lowest}
use Rattle.iterative.specs.Method.{bad_curvature}
use Rattle.iterative.proofs.components.find_bad_curvature.Goals as goal

pub returns : goal.returns
unfolding bad_curvature lowest
returns c = c.lowest.ensures ∙ rw (c.bad_curvature_one.ensures, c.bad_curvature_one-2.ensures, c.bad_curvature_one-3.ensures)
