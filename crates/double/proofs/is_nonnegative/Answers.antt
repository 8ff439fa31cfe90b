use mathlib.Core.Path.{◌≡◌, refl}
use mathlib.Core.Bool.{not, cond, ◌&&◌}
use lib.Ieee.{Float, nan, inf, fin, binary64, is_nan, le, lt, of_bits}
use lib.Ieee.Scale.{finite}
use Rattle.double.proofs.Finite.{less-itself}
use Rattle.double.proofs.Order.{le_not_lt}
use Rattle.double.proofs.is_nonnegative.Goals as goal

shown : (x : Float) → le (cond (finite x) (of_bits binary64 0) nan) x ≡ (finite x && not (lt x (of_bits binary64 0)))
unfolding le lt is_nan of_bits
shown nan = refl
shown (inf s) = refl
shown (fin s m e) = le_not_lt (of_bits binary64 0) (fin s m e) refl refl

pub returns : goal.returns
returns c = rw (less-itself c.args.x) (shown c.args.x)
