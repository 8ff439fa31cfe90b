use Rattle.image.proofs.Domain.{weight-some, weight-none}
use Rattle.image.proofs.rows.bad_weight_at.Goals as goal

pub returns-in-Some : goal.returns-in-Some
returns-in-Some c = search weight-some

pub returns-in-None : goal.returns-in-None
returns-in-None c = search weight-none
