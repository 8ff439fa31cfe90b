-- How many rows hold each camera (document 02, R-11): 'a count of rows that entered its diagonal: a bearing on a point not below 1e-12, a direction
-- always', in whole numbers.
--
-- For planners: a camera with a count under 2 is held by one row or none; `few` is how many there are. A row that is given twice counts twice, as it
-- is added twice. Proved: `row_counts` of proofs/Counts.
use Rattle.std.specs.Prelude.{Ok}
use Rattle.std.specs.Prelude.{ℕ, ◌+◌, ◌*◌, ◌<◌, ◌≡◌, Bool, cond, not, ◌&&◌, eqb, ltb, pos}
use Rattle.std.specs.Float.{binary64}
use Rattle.std.specs.Float.Ieee.{lt, of_int}
use Rattle.std.specs.Int.{from_bool}
use Rattle.field.specs.Count.{sum_below, count_below}
use Rattle.network.specs.Network.{Network, rows, first_end, second_end, is_bearing}
use Rattle.network.specs.Refusals.{verdict, network_tests}
use Rattle.system.specs.System.{tiny, point_weight, term_at, terms}

-- bearing r enters its camera's diagonal: the weight of its point is not below 1e-12
unfoldable pub bearing_enters : Network → ℕ → Bool
bearing_enters net r = not (lt (point_weight net (second_end net.ends r)) tiny)

-- How often row r enters the diagonal of camera c: a bearing at its camera, if it does; a direction at its source and at its target.
unfoldable pub entries : Network → ℕ → ℕ → ℕ
entries net c r =
    cond (is_bearing net.shape r) (from_bool (bearing_enters net r && eqb (first_end net.ends r) c))
    (from_bool (eqb (first_end net.ends r) c) + from_bool (eqb (second_end net.ends r) c))

-- camera c's count: its degree in rows, without weights
unfoldable pub row_count : Network → ℕ → ℕ
row_count net c = sum_below (entries net c) (rows net.shape)

-- 'how many cameras have a count under 2'
unfoldable pub few : Network → ℕ
few net = count_below (λ c. ltb (row_count net c) 2) net.shape.cameras

-- for every network that passes 1 to 7
pub record RowCounts : Type 0 where
  -- the count in a camera's term is that whole number, exactly
  pub exact : (net : Network) → verdict (network_tests net) ≡ Ok tt → (c : ℕ) → c < net.shape.cameras →
      (term_at (terms net) c).count ≡ of_int binary64 (pos (row_count net c))
  -- 'the sum of counts equals the number of such bearings plus twice E'
  pub sum : (net : Network) → verdict (network_tests net) ≡ Ok tt →
      sum_below (row_count net) net.shape.cameras ≡ count_below (bearing_enters net) net.shape.bearings + 2 * net.shape.directions
