use Rattle.text.specs.Text.{coordinates}
use Rattle.text.proofs.Puts.{wrote_three}
use Rattle.text.proofs.Writer.coordinates.Goals as goal

pub returns : goal.returns
unfolding coordinates
returns c = search wrote_three
