use borrow.Author.Rules.{rules}
use Rattle.graph.specs.Outcome.{connectivity_fits}
use Rattle.graph.proofs.checks.connectivity_fits.Goals as goal

pub returns : goal.returns
unfolding connectivity_fits
returns c = search rules
