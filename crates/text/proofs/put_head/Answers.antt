use Rattle.text.specs.Text.{parts_line, few_line, ascii}
use Rattle.text.proofs.Lines.{head-put}
use Rattle.text.proofs.put_head.Goals as goal

pub returns : goal.returns
unfolding parts_line few_line ascii
returns c = search head-put
