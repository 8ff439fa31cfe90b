use Rattle.cholesky.proofs.Updates.{both-more, both-same}
use Rattle.cholesky.proofs.update_both.Goals as goal

pub returns-then-w-c : goal.returns-then-w-c
returns-then-w-c c = search both-more

pub returns-else-w-c : goal.returns-else-w-c
returns-else-w-c c = search both-same
