use Rattle.network.proofs.Verdicts.{last}
use Rattle.network.specs.Refusals.{length_tests}
use Rattle.network.proofs.lengths.check_lengths.Goals as goal

pub returns : goal.returns
unfolding length_tests
returns c = search last
