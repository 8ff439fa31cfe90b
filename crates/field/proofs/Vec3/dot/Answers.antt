use mathlib.Core.Path.{refl}
use Rattle.field.specs.Vec.{dot}
use Rattle.field.proofs.Vec3.dot.Goals as goal

pub returns : goal.returns
unfolding dot
returns c = refl
