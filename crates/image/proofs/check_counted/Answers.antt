use Rattle.network.proofs.Verdicts.{halts-in, handed-out, passes-in}
use Rattle.image.proofs.Passing.{image-long, counts-is}
use Rattle.image.specs.Tests.{counts_tests}
use Rattle.image.proofs.check_counted.Goals as goal

pub returns-in_err-check_image : goal.returns-in_err-check_image
unfolding counts_tests
returns-in_err-check_image c = handed-out c.from_residual.ensures.1 (search (halts-in, c.in_err-check_image.was))

pub shape_at-requires : goal.shape_at-requires
unfolding counts_tests
shape_at-requires c = search (image-long, c.in_ok-check_image.was)

pub returns : goal.returns
unfolding counts_tests
returns c = search (passes-in, counts-is, c.in_ok-check_image.was)
