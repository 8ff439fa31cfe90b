use mathlib.Core.Path.{◌≡◌, refl, ap, ◌∙◌}
use mathlib.Core.Bool.{Bool, true, false, not, ◌&&◌, ◌||◌}
use Rattle.network.specs.Refusals.{bad_weight}
use lib.ListN.{get_or}
use lib.Ieee.{Float, nan, binary64, lt, of_bits}
use lib.Ieee.Scale.{finite}
use Rattle.network.proofs.domain.bad_weight_at.Goals as goal

not-both : (a b : Bool) → not (a && not b) ≡ (not a || b)
not-both true true = refl
not-both true false = refl
not-both false b = refl

outside : (r : Bool) (w : Float) → r ≡ (finite w && not (lt w (of_bits binary64 0))) → not r ≡ (not (finite w) || lt w (of_bits binary64 0))
outside r w e = ap not e ∙ not-both (finite w) (lt w (of_bits binary64 0))

pub returns : goal.returns
unfolding bad_weight
returns c = outside _ (get_or c.args.weights.now c.args.r nan) c.is_nonnegative.ensures
