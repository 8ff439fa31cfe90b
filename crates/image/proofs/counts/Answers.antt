use Rattle.network.proofs.Verdicts.{handed-out}
use Rattle.image.proofs.Passing.{counted-long, counts-refused, counts-passed}
use Rattle.image.proofs.counts.Goals as goal

pub returns-in_err-check_counted : goal.returns-in_err-check_counted
returns-in_err-check_counted c = handed-out c.from_residual.ensures.1 (search (counts-refused, c.in_err-check_counted.was))

pub shape_at-requires : goal.shape_at-requires
shape_at-requires c = search (counted-long, c.in_ok-check_counted.was)

pub returns : goal.returns
returns c = search (counts-passed, c.in_ok-check_counted.was)
