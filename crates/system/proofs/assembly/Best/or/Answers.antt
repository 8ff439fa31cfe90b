use Rattle.system.proofs.assembly.Best.or.Goals as goal

pub returns-then-degree-self : goal.returns-then-degree-self
returns-then-degree-self c = rw c.if-degree-self.true

pub returns : goal.returns
returns c = rw c.if-degree-self.false
