use Rattle.recover.proofs.Rows.{row-stored}
use Rattle.recover.proofs.rescale.rescale_row.Goals as goal

pub returns : goal.returns
returns c = let e = rw (c.scale.ensures, c.rows.ensures) at c.put_scale.ensures in search row-stored
