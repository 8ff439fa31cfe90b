-- The order in which the new scales are stored: the bearings as the point lists name them, so that W is summed once for each point,
-- then the directions.
use Rattle.std.specs.Prelude.{ℕ, ◌+◌, List, get_or, set, Float}
use Rattle.std.specs.Float.{nan}
use Rattle.field.specs.declared.Vec3.{Vec3}
use Rattle.field.specs.Count.{upto}
use Rattle.network.specs.declared.Shape.{Shape}
use Rattle.recover.specs.Recover.{direction_kept, new_scale_in}

-- the row at place k of the point lists, and a direction's own place
unfoldable pub listed_row : List ℕ → ℕ → ℕ
listed_row listed k = get_or listed k 0

unfoldable pub own_row : ℕ → ℕ
own_row r = r

-- the numbers out with g r stored at each r of the k rows that `row` gives from place f on
unfoldable pub stored_at : (ℕ → ℕ) → (ℕ → Float) → ℕ → ℕ → List Float → List Float
stored_at row g f k out = upto (λ i l. set l (row (f + i)) (g (row (f + i)))) k out

-- the new scale of a direction, which reads no point list
unfoldable pub direction_scale : Shape → List ℕ → List Float → List Float → List Float → List Float → List Vec3 → ℕ → Float
direction_scale s ends rays weights scales points cs r =
    new_scale_in (direction_kept s.bearings (get_or weights r nan)) s ends rays scales points cs r
