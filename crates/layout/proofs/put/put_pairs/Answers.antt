use Rattle.layout.proofs.Stores.{start_none, start-more, offset-fits, pairs-none, pairs-more}
use Rattle.layout.proofs.put.put_pairs.Goals as goal

pub loop-i-init : goal.loop-i-init
loop-i-init c = (search start_none, search pairs-none)

pub overflow_add-offset : goal.overflow_add-offset
overflow_add-offset c = search offset-fits

pub loop-i-preserved : goal.loop-i-preserved
loop-i-preserved c = (search start-more, search pairs-more)
