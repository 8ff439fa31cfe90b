use Rattle.network.specs.Refusals.{test}
use Rattle.network.proofs.answers.refused_if.Goals as goal

pub returns-then-bad : goal.returns-then-bad
unfolding test
returns-then-bad c = rw c.if-bad.true

pub returns : goal.returns
unfolding test
returns c = rw c.if-bad.false
