use Rattle.recover.proofs.Rows.{dot-is}
use Rattle.recover.proofs.row.Sites.dot.Goals as goal

pub returns : goal.returns
returns c = let v = rw c.rows.ensures at c.ray.ensures in search dot-is
