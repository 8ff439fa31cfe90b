use mathlib.Core.Path.{refl}
use Rattle.field.specs.Vec.{scale}
use Rattle.field.proofs.Vec3MulF64.mul.Goals as goal

pub returns : goal.returns
unfolding scale
returns c = refl
