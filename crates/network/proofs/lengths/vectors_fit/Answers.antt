use Rattle.network.specs.Refusals.{vectors_fit}
use borrow.Author.Rules.{rules}
use Rattle.network.proofs.lengths.vectors_fit.Goals as goal

pub returns : goal.returns
unfolding vectors_fit
returns c = search rules
