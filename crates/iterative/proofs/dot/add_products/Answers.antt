use mathlib.Core.Path.{refl}
use Rattle.field.specs.Vec.{plus}
use Rattle.iterative.specs.Problem.{times}
use Rattle.iterative.proofs.dot.add_products.Goals as goal

pub returns : goal.returns
unfolding plus times
returns c = refl
