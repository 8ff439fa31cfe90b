use native.Mathlib.Omega.{arith}
use Rattle.image.proofs.Heads.{shape_is}
use Rattle.image.proofs.head.shape_at.Goals as goal

pub returns : goal.returns
returns c = record { value = search shape_is; small = omega arith }
