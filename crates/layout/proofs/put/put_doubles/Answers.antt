use Rattle.layout.proofs.Stores.{run_none, doubles-more}
use Rattle.layout.proofs.put.put_doubles.Goals as goal

pub loop-i-init : goal.loop-i-init
loop-i-init c = search run_none

pub loop-i-preserved : goal.loop-i-preserved
loop-i-preserved c = search doubles-more
