use Rattle.iterative.proofs.Entries.{dot-same, dot-added}
use borrow.Author.Tests.{eq-eqb, ne_eqb}
use Rattle.iterative.proofs.dot.Dot.step.Goals as goal

pub returns-then-i-self : goal.returns-then-i-self
returns-then-i-self c = search (dot-same, eq-eqb)

pub returns : goal.returns
returns c = search (dot-added, ne_eqb)
