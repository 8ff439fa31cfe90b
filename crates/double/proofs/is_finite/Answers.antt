use mathlib.Core.Path.{◌≡◌, refl}
use mathlib.Core.Bool.{Bool, true, false, cond}
use lib.Ieee.{nan, binary64, le, of_bits}
use lib.Ieee.Scale.{finite}
use Rattle.double.proofs.Finite.{less-itself}
use Rattle.double.proofs.is_finite.Goals as goal

shown : (b : Bool) → le (of_bits binary64 0) (cond b (of_bits binary64 0) nan) ≡ b
unfolding le of_bits
shown true = refl
shown false = refl

pub returns : goal.returns
returns c = rw (less-itself c.args.x) (shown (finite c.args.x))
