use borrow.Author.Rules.{rules}
use Rattle.network.specs.Refusals.{loops}
use Rattle.network.proofs.ends.loops_at.Goals as goal

pub returns : goal.returns
unfolding loops
returns c = search rules
