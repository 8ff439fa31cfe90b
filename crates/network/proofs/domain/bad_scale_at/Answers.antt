use mathlib.Core.Path.{◌≡◌, refl, ap, ◌∙◌}
use mathlib.Core.Bool.{Bool, true, false, not, ◌&&◌, ◌||◌}
use Rattle.network.specs.Refusals.{bad_scale}
use lib.ListN.{get_or}
use lib.Ieee.{Float, nan, binary64, lt, of_bits}
use lib.Ieee.Scale.{finite}
use Rattle.network.proofs.domain.bad_scale_at.Goals as goal

not-both : (a b : Bool) → not (a && b) ≡ (not a || not b)
not-both true b = refl
not-both false b = refl

outside : (r : Bool) (s : Float) → r ≡ (finite s && lt (of_bits binary64 0) s) → not r ≡ (not (finite s) || not (lt (of_bits binary64 0) s))
outside r s e = ap not e ∙ not-both (finite s) (lt (of_bits binary64 0) s)

pub returns : goal.returns
unfolding bad_scale
returns c = outside _ (get_or c.args.scales.now c.args.r nan) c.is_positive.ensures
