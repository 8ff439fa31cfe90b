use borrow.Author.Tests.{eq-eqb, ne_eqb}
use Rattle.field.proofs.anchored.Goals as goal

pub returns-then-i-anchor : goal.returns-then-i-anchor
returns-then-i-anchor c = rw (eq-eqb _ _ c.if-i-anchor.true)

pub returns-else-i-anchor : goal.returns-else-i-anchor
returns-else-i-anchor c = rw (ne_eqb _ _ c.if-i-anchor.false)
