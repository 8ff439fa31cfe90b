use Rattle.text.proofs.Lines.{vectors-none, vectors-more, vectors-all}
use Rattle.text.proofs.put_vectors.Goals as goal

pub loop-i-init : goal.loop-i-init
loop-i-init c = search vectors-none

pub loop-i-preserved : goal.loop-i-preserved
loop-i-preserved c = search vectors-more

pub returns : goal.returns
returns c = search vectors-all
