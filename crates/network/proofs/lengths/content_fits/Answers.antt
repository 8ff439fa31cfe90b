use Rattle.std.proofs.Math.Bool.{and_assoc}
use Rattle.network.specs.Refusals.{content_fits}
use Rattle.network.proofs.lengths.content_fits.Goals as goal

pub returns : goal.returns
unfolding content_fits
returns c = rw (← c.c.view_is, and_assoc) cc
