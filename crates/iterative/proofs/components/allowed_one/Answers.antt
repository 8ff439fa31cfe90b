use Rattle.iterative.proofs.components.allowed_one.Goals as goal

pub returns : goal.returns
returns c = rw c.sqrt.ensures
