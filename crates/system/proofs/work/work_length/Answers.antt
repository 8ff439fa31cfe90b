use Rattle.system.proofs.Segments.{length-refused, length-of}
use Rattle.network.proofs.Sound.{counted}
use Rattle.network.proofs.Verdicts.{handed-out}
use Rattle.system.proofs.work.work_length.Goals as goal

pub returns-in_err-check_counts : goal.returns-in_err-check_counts
returns-in_err-check_counts c = handed-out c.from_residual.ensures.1 (search (length-refused, c.in_err-check_counts.was))

pub work_needed-requires : goal.work_needed-requires
work_needed-requires c = search (counted, c.in_ok-check_counts.was)

pub returns : goal.returns
returns c = search (length-of, c.in_ok-check_counts.was)
