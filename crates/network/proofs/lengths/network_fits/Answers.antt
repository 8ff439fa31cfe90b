use borrow.Author.Rules.{rules}
use Rattle.network.specs.Refusals.{network_fits}
use Rattle.network.proofs.lengths.network_fits.Goals as goal

pub returns : goal.returns
unfolding network_fits
returns c = search rules
