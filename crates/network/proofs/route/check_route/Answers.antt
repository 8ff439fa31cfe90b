use Rattle.network.proofs.Verdicts.{last, test-is}
use Rattle.network.specs.Refusals.{route_tests}
use Rattle.network.proofs.route.check_route.Goals as goal

pub returns : goal.returns
unfolding route_tests
returns c = search (last, test-is)
