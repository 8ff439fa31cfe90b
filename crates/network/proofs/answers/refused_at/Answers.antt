use borrow.Author.Rules.{rules}
use Rattle.network.specs.Refusals.{test_at}
use Rattle.network.proofs.answers.refused_at.Goals as goal

pub returns-in-Some : goal.returns-in-Some
unfolding test_at
returns-in-Some c = rw c.in-Some.is

pub returns-in-None : goal.returns-in-None
unfolding test_at
returns-in-None c = search rules
