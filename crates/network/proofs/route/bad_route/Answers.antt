use Rattle.std.proofs.Math.Bool.{or_assoc}
use Rattle.network.specs.Refusals.{bad_route}
use Rattle.network.proofs.route.bad_route.Goals as goal

pub returns : goal.returns
unfolding bad_route
returns c = search or_assoc
