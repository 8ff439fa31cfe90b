use Rattle.field.specs.Count.{lowest}
use Rattle.iterative.proofs.components.lowest.Goals as goal

pub returns-then-a : goal.returns-then-a
unfolding lowest
returns-then-a c = rw c.if-a.true

pub returns-then-a-2 : goal.returns-then-a-2
unfolding lowest
returns-then-a-2 c = rw (c.if-a.false, c.if-a-2.true)

pub returns-then-a-3 : goal.returns-then-a-3
unfolding lowest
returns-then-a-3 c = rw (c.if-a.false, c.if-a-2.false, c.if-a-3.true)

pub returns-else-a-3 : goal.returns-else-a-3
unfolding lowest
returns-else-a-3 c = rw (c.if-a.false, c.if-a-2.false, c.if-a-3.false)
