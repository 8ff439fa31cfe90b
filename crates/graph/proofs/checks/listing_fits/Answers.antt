use borrow.Author.Rules.{rules}
use Rattle.graph.specs.Outcome.{listing_fits}
use Rattle.graph.proofs.checks.listing_fits.Goals as goal

pub returns : goal.returns
unfolding listing_fits
returns c = search rules
