use Rattle.network.proofs.Verdicts.{last, test-at-is}
use Rattle.network.specs.Refusals.{domain_tests}
use Rattle.network.proofs.domain.check_domain.Goals as goal

pub returns : goal.returns
unfolding domain_tests
returns c = search (last, test-at-is)
