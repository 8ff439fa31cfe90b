use borrow.Author.Rules.{rules}
use Rattle.network.specs.Refusals.{ends_fit}
use Rattle.network.proofs.lengths.ends_fit.Goals as goal

pub returns : goal.returns
unfolding ends_fit
returns c = search rules
