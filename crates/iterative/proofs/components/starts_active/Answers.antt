use mathlib.Core.Path.{refl}
use Rattle.iterative.specs.Method.{starts_active}
use Rattle.iterative.proofs.components.starts_active.Goals as goal

pub returns : goal.returns
unfolding starts_active
returns c = refl
