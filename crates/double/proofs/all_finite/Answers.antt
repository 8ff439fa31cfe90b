use mathlib.Core.Path.{◌≡◌, refl}
use mathlib.Core.Bool.{Bool, true, false, cond, ◌&&◌}
use lib.Ieee.{nan, binary64, add, le, of_bits}
use lib.Ieee.Scale.{finite}
use Rattle.double.proofs.Finite.{less-itself}
use Rattle.double.proofs.all_finite.Goals as goal

shown : (a b d : Bool) → let z = of_bits binary64 0 in le z (add binary64 (add binary64 (cond a z nan) (cond b z nan)) (cond d z nan)) ≡ (a && (b && d))
unfolding le add of_bits
shown true true true = refl
shown true true false = refl
shown true false d = refl
shown false b d = refl

pub returns : goal.returns
returns c = rw (less-itself c.args.x, less-itself c.args.y, less-itself c.args.z) (shown (finite c.args.x) (finite c.args.y) (finite c.args.z))
