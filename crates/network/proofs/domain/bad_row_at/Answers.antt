use Rattle.std.proofs.Math.Bool.{or_assoc}
use Rattle.network.specs.Refusals.{bad_row}
use Rattle.network.proofs.domain.bad_row_at.Goals as goal

pub returns : goal.returns
unfolding bad_row
returns c = rw (← c.c.view_is, or_assoc) cc
