use Rattle.text.specs.Text.{named}
use Rattle.text.proofs.Puts.{wrote_two}
use Rattle.text.proofs.Writer.named.Goals as goal

pub returns : goal.returns
unfolding named
returns c = search wrote_two
