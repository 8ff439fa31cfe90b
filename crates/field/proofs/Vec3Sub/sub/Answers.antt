use mathlib.Core.Path.{refl}
use Rattle.field.specs.Vec.{minus}
use Rattle.field.proofs.Vec3Sub.sub.Goals as goal

pub returns : goal.returns
unfolding minus
returns c = refl
