use Rattle.text.proofs.Lines.{spaced-put}
use Rattle.text.proofs.Writer.spaced.Goals as goal

pub returns : goal.returns
returns c = search spaced-put
