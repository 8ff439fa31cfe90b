use Rattle.text.specs.Text.{counts_line, ascii}
use Rattle.text.proofs.Lines.{counts-put}
use Rattle.text.proofs.put_counts.Goals as goal

pub returns : goal.returns
unfolding counts_line ascii
returns c = search counts-put
