use Rattle.image.proofs.Domain.{row-is}
use Rattle.image.proofs.rows.ImageRows.bad_row.Goals as goal

pub returns : goal.returns
returns c = let h = rw (← c.self.view_is) at c.requires in rw (← c.self.view_is) (search row-is)
