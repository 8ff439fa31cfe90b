use mathlib.Core.Path.{◌≡◌, refl}
use mathlib.Core.Bool.{cond, ◌&&◌}
use lib.Ieee.{Float, nan, inf, fin, binary64, lt, of_bits}
use lib.Ieee.Scale.{finite}
use Rattle.double.proofs.Finite.{less-itself}
use Rattle.double.proofs.is_positive.Goals as goal

shown : (x : Float) → lt (cond (finite x) (of_bits binary64 0) nan) x ≡ (finite x && lt (of_bits binary64 0) x)
unfolding lt
shown nan = refl
shown (inf s) = refl
shown (fin s m e) = refl

pub returns : goal.returns
returns c = rw (less-itself c.args.x) (shown c.args.x)
