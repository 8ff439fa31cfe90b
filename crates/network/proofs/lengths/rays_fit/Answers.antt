use borrow.Author.Rules.{rules}
use Rattle.network.specs.Refusals.{rays_fit}
use Rattle.network.proofs.lengths.rays_fit.Goals as goal

pub returns : goal.returns
unfolding rays_fit
returns c = search rules
