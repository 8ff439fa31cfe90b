use Rattle.network.proofs.Verdicts.{halts-in, handed-out, passes-in}
use Rattle.image.specs.Reading.{content_from}
use Rattle.image.specs.Tests.{row_tests}
use Rattle.image.proofs.rows.check_rows.Goals as goal

pub returns-in_err-check_ends : goal.returns-in_err-check_ends
unfolding row_tests content_from
returns-in_err-check_ends c = handed-out c.from_residual.ensures.1 (search (halts-in, c.in_err-check_ends.was))

pub returns : goal.returns
unfolding row_tests content_from
returns c = search (passes-in, c.in_ok-check_ends.was)
