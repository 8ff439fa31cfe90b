use mathlib.Core.Path.{refl}
use Rattle.field.specs.Vec.{plus}
use Rattle.field.proofs.Vec3Add.add.Goals as goal

pub returns : goal.returns
unfolding plus
returns c = refl
