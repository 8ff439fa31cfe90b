use borrow.Author.Rules.{rules}
use Rattle.network.specs.Refusals.{lists_fit}
use Rattle.network.proofs.lengths.lists_fit.Goals as goal

pub returns : goal.returns
unfolding lists_fit
returns c = search rules
