use Rattle.iterative.proofs.Entries.{dot-none, dot-more}
use Rattle.iterative.specs.Problem.{field_dot}
use borrow.Author.Rules.{rules}
use Rattle.iterative.proofs.dot.Dot.sum.Goals as goal

pub loop-i-init : goal.loop-i-init
loop-i-init c = search dot-none

pub loop-i-preserved : goal.loop-i-preserved
loop-i-preserved c = search dot-more

pub returns : goal.returns
unfolding field_dot
returns c = search rules
