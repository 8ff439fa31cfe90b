use Rattle.image.proofs.Heads.{length-is}
use Rattle.image.proofs.head.bad_length_at.Goals as goal

pub returns : goal.returns
returns c = search length-is
