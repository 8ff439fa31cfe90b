use Rattle.cholesky.specs.inner.Stages.{all, finite4}
use borrow.Author.Rules.{rules}
use Rattle.cholesky.proofs.finite4.Goals as goal

pub returns-then-is_finite-3 : goal.returns-then-is_finite-3
unfolding finite4 all
returns-then-is_finite-3 c = search rules

pub returns-else-is_finite-3 : goal.returns-else-is_finite-3
unfolding finite4 all
returns-else-is_finite-3 c = search rules

pub returns-else-is_finite-2 : goal.returns-else-is_finite-2
unfolding finite4 all
returns-else-is_finite-2 c = search rules

pub returns-else-is_finite : goal.returns-else-is_finite
unfolding finite4 all
returns-else-is_finite c = search rules
