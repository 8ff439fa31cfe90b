use Rattle.system.proofs.Rows.{row-bearing, row-direction}
use Rattle.system.proofs.assembly.add_row.Goals as goal

pub returns-then-r-shape : goal.returns-then-r-shape
returns-then-r-shape c = let h = rw c.shape.ensures.value at c.if-r-shape.true in search row-bearing

pub returns-else-r-shape : goal.returns-else-r-shape
returns-else-r-shape c = let h = rw c.shape.ensures.value at c.if-r-shape.false in search row-direction
