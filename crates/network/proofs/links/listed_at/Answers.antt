use Rattle.network.proofs.Sound.{listed_in}
use Rattle.network.proofs.links.listed_at.Goals as goal

pub returns : goal.returns
returns c = search listed_in
