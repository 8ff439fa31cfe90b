use Rattle.command.proofs.Printing.{handed}
use Rattle.command.proofs.Outcomes.{refused-outcome, read-refused, read-solved, content-sound}
use Rattle.command.proofs.reading.run_sized.Goals as goal

pub returns-in_err-read : goal.returns-in_err-read
returns-in_err-read c = handed _ _ _ _ c.from_residual.ensures.1 (search (refused-outcome, read-refused, c.in_err-read.was))

pub place_read-requires : goal.place_read-requires
place_read-requires c = search (content-sound, c.in_ok-read.was)

pub returns : goal.returns
returns c = search (read-solved, c.in_ok-read.was)
