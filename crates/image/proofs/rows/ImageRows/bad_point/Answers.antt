use Rattle.image.proofs.Domain.{point-is}
use Rattle.image.proofs.rows.ImageRows.bad_point.Goals as goal

pub returns : goal.returns
returns c = let h = rw (← c.self.view_is) at c.requires in rw (← c.self.view_is) (search point-is)
