use Rattle.layout.proofs.Stores.{run_none, rows_more}
use Rattle.layout.proofs.put.put_rows.Goals as goal

pub loop-r-init : goal.loop-r-init
loop-r-init c = search run_none

pub loop-r-preserved : goal.loop-r-preserved
loop-r-preserved c = search rows_more
