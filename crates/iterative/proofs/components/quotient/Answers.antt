use mathlib.Core.Path.{refl}
use Rattle.iterative.specs.Method.{quotient}
use Rattle.iterative.proofs.components.quotient.Goals as goal

pub returns : goal.returns
unfolding quotient
returns c = refl
