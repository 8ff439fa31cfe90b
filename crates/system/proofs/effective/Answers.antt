use Rattle.system.specs.System.{effective_in}
use borrow.Author.Rules.{rules}
use Rattle.system.proofs.effective.Goals as goal

pub returns : goal.returns
unfolding effective_in
returns c = search rules
