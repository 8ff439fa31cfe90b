use Rattle.network.proofs.Verdicts.{halts, handed-out, passes, last, test-is}
use Rattle.network.specs.Refusals.{count_tests, bad_cameras, bad_counts}
use Rattle.std.proofs.Math.Bool.{or_assoc}
use Rattle.network.proofs.check_counts.Goals as goal

pub returns-in_err-refused_if : goal.returns-in_err-refused_if
unfolding count_tests bad_cameras bad_counts
returns-in_err-refused_if c = handed-out c.from_residual.ensures.1 (search (halts, test-is, c.in_err-refused_if.was))

pub returns : goal.returns
unfolding count_tests bad_cameras bad_counts
returns c = search (passes, last, test-is, or_assoc, c.in_ok-refused_if.was)
