use Rattle.command.proofs.Printing.{report-printed}
use Rattle.command.proofs.output.print.Goals as goal

pub returns : goal.returns
returns c = search report-printed
