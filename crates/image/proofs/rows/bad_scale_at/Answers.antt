use Rattle.image.proofs.Domain.{scale-some, scale-none}
use Rattle.image.proofs.rows.bad_scale_at.Goals as goal

pub returns-in-Some : goal.returns-in-Some
returns-in-Some c = search scale-some

pub returns-in-None : goal.returns-in-None
returns-in-None c = search scale-none
