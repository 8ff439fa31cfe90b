use Rattle.dense.proofs.Placing.{spread_none, spread-more}
use Rattle.dense.proofs.cameras.spread.Goals as goal

pub loop-c-init : goal.loop-c-init
loop-c-init c = search spread_none

pub loop-c-preserved : goal.loop-c-preserved
loop-c-preserved c = search spread-more
