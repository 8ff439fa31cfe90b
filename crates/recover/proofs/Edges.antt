-- The edge row of scales holds, and what the points of three other rows come to. By computing; assumes nothing.
use mathlib.Core.Path.{◌≡◌, refl}
use mathlib.Core.List.{[], ◌∷◌}
use lib.Ieee.{Float}
use Rattle.field.specs.Vec.{null, origin}
use Rattle.network.proofs.Computing.{refusals}
use Rattle.system.specs.System.{tiny, one, two}
use Rattle.system.specs.Edges.{single, directed, five, half}
use Rattle.system.proofs.Computing.{assembly}
use Rattle.recover.specs.Part.{marked}
use Rattle.recover.specs.Recover.{sighting, point_by, points_of, near_end, far_end, baseline_in, direction_kept, kept_by_weight, renewal, answer_in, new_scale_in, new_scale}
use Rattle.recover.specs.Calls.{buffers_fit, placed_tests}
use Rattle.recover.specs.Edges.{ScaleEdges}

-- what points and scales are computed with
unfoldable computing : Unit {0}
unfolding refusals assembly placed_tests buffers_fit marked point_by sighting new_scale new_scale_in answer_in renewal kept_by_weight direction_kept near_end far_end baseline_in
computing = tt

pub scale-edges : ScaleEdges
unfolding computing directed
scale-edges = record {
  ahead = (refl, λ y. record { answer = refl; output = refl; marks_out = refl });
  behind = (refl, λ y. record { answer = refl; output = refl; marks_out = refl });
  near = (refl, λ y. record { answer = refl; output = refl; marks_out = refl });
  apart = (refl, λ y. record { answer = refl; output = refl; marks_out = refl });
}

-- camera 0 at the origin sees point 0 along (0,0,1) with this weight and scale, and the point comes out as (x, y, z)
abbrev GivesPoint : (w s x y z : Float) → Type 0
GivesPoint w s x y z = points_of (single w s) (origin ∷ []) ≡ record { x = x; y = y; z = z } ∷ []

pub point-seen : GivesPoint one half null null two
unfolding computing single
point-seen = refl

pub point-unseen : GivesPoint null half five five five
unfolding computing single
point-unseen = refl

pub point-faint : GivesPoint tiny one null null one
unfolding computing single
point-faint = refl
