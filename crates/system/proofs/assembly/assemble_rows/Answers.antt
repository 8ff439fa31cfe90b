use Rattle.system.proofs.Rows.{rows_none, rows_more}
use Rattle.system.proofs.assembly.assemble_rows.Goals as goal

pub loop-r-init : goal.loop-r-init
loop-r-init c = search rows_none

pub loop-r-preserved : goal.loop-r-preserved
loop-r-preserved c = let a = rw (c.ends-ends.ensures, c.links.ensures.value) at c.add_row.ensures in search rows_more
