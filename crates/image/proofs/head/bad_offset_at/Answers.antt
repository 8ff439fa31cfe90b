use Rattle.image.proofs.Heads.{offset-off}
use Rattle.image.proofs.head.bad_offset_at.Goals as goal

pub returns : goal.returns
returns c = search offset-off
