use mathlib.Core.Path.{refl}
use Rattle.field.specs.Vec.{over}
use Rattle.field.proofs.Vec3DivF64.div.Goals as goal

pub returns : goal.returns
unfolding over
returns c = refl
