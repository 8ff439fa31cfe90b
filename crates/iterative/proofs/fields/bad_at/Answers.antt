use borrow.Author.Tests.{eq-eqb, ne_eqb}
use Rattle.iterative.proofs.fields.bad_at.Goals as goal

pub returns-then-i-anchor : goal.returns-then-i-anchor
returns-then-i-anchor c = rw (eq-eqb _ _ c.if-i-anchor.true)

pub returns : goal.returns
returns c = rw (ne_eqb _ _ c.if-i-anchor.false, c.is_finite.ensures)
