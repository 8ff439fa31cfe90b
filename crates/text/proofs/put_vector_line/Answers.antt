use Rattle.text.specs.Text.{vector_line}
use Rattle.text.proofs.Puts.{wrote_three}
use Rattle.text.proofs.put_vector_line.Goals as goal

pub returns : goal.returns
unfolding vector_line
returns c = search wrote_three
