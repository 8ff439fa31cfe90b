use Rattle.network.proofs.Verdicts.{halts, handed-out, passes, last, test-at-is}
use Rattle.network.specs.Refusals.{end_tests}
use Rattle.image.proofs.rows.check_ends.Goals as goal

pub returns-in_err-refused_at : goal.returns-in_err-refused_at
unfolding end_tests
returns-in_err-refused_at c = handed-out c.from_residual.ensures.1 (search (halts, test-at-is, c.in_err-refused_at.was))

pub returns : goal.returns
unfolding end_tests
returns c = search (passes, last, test-at-is, c.in_ok-refused_at.was)
