use Rattle.recover.proofs.Rows.{renewal-kept, renewal-new}
use Rattle.recover.proofs.row.renew.Goals as goal

pub returns-then-square : goal.returns-then-square
returns-then-square c = search renewal-kept

pub returns : goal.returns
returns c = search renewal-new
