use Rattle.command.proofs.Printing.{refusal-printed}
use Rattle.command.proofs.output.refuse.Goals as goal

pub returns : goal.returns
returns c = search refusal-printed
