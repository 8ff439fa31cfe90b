use Rattle.recover.proofs.Rows.{baseline-is}
use Rattle.recover.proofs.row.Sites.baseline.Goals as goal

pub returns : goal.returns
returns c = search baseline-is
