use Rattle.image.proofs.Heads.{start_first, start-next}
use Rattle.image.proofs.head.start_of.Goals as goal

pub returns-then-i-eq0 : goal.returns-then-i-eq0
returns-then-i-eq0 c = search start_first

pub returns : goal.returns
returns c = search start-next
