use mathlib.Core.Bool.{not}
use mathlib.Core.Path.{ap, ◌∙◌}
use Rattle.field.specs.Vec.{is_finite}
use Rattle.network.specs.Refusals.{bad_vector}
use Rattle.network.proofs.domain.bad_vector_at.Goals as goal

pub returns : goal.returns
unfolding bad_vector is_finite
returns c = ap not (c.all_finite.ensures ∙ ap is_finite c.get3-v.ensures)
