use Rattle.recover.proofs.Rows.{put-kept, put-new}
use Rattle.recover.proofs.row.put_scale.Goals as goal

pub returns-in-Kept : goal.returns-in-Kept
returns-in-Kept c = search put-kept

pub returns-in-Renewed : goal.returns-in-Renewed
returns-in-Renewed c = search put-new
