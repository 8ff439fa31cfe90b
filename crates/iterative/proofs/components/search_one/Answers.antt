use Rattle.iterative.proofs.components.search_one.Goals as goal

pub returns-then-active : goal.returns-then-active
returns-then-active c = rw c.if-active.true
