use Rattle.text.proofs.Puts.{wrote_two}
use Rattle.text.proofs.Writer.number_line.Goals as goal

pub returns : goal.returns
returns c = search wrote_two
