-- Points, dots and scales from placed cameras (document 01, 'Arithmetic of the step'; the Rust's `recover_trial_points`, `update_trial_dots` and
-- `update_trial_scales`). cs are the cameras. A definition over plain lists comes first where a function reads less than a network.
use Rattle.std.specs.Prelude.{ℕ, ◌*◌, List, Bool, cond, ◌&&◌, get_or, eqb, Float}
use Rattle.std.specs.Float.{nan, binary64}
use Rattle.std.specs.Float.Ieee.{div, lt, of_bits}
use Rattle.field.specs.declared.Vec3.{Vec3}
use Rattle.field.specs.Vec.{at, plus, minus, scale, over, dot}
use Rattle.field.specs.Count.{field}
use Rattle.field.specs.Buffer.{get, vector}
use Rattle.double.specs.Double.{greater}
use Rattle.network.specs.declared.Shape.{Shape}
use Rattle.network.specs.Network.{Network, rows, first_end, second_end, is_bearing, weight_of, old_point, span}
use Rattle.system.specs.System.{Weights, tiny, pull, pull_sum, point_weight, weights_of}
use Rattle.recover.specs.declared.Scale.{Scale}
use Rattle.recover.specs.declared.Scale.TheVariants.{Kept, Renewed}

-- ---- 'Points: W below 1e-12 keeps the old point; else sum of (camera × e + ray × (weight × scale)) over W.'

-- camera × e + ray × (weight × scale), for row r: e has the rows' effective weights, o their pulls
unfoldable pub sighting : (ℕ → Float) → (ℕ → Vec3) → List ℕ → List Vec3 → ℕ → Vec3
sighting e o ends cs r = plus (scale (at cs (first_end ends r)) (e r)) (o r)

-- point p, by the weights w (`pull_sum` adds the vectors of the rows that its list names)
unfoldable pub point_by : Network → Weights → List Vec3 → ℕ → Vec3
point_by net w cs p =
    let sum = pull_sum (sighting w.row (pull net) net.ends cs) net.listed (span net p) in
    cond (lt (w.point p) tiny) (old_point net p) (over sum (w.point p))

abbrev pub points_by : Network → Weights → List Vec3 → List Vec3
points_by net w cs = field net.shape.points (point_by net w cs)

-- by the network's own weights
abbrev pub points_of : Network → List Vec3 → List Vec3
points_of net cs = points_by net (weights_of net) cs

-- ---- 'A dot is the ray with (point - camera), or the direction with (target - source).' The network's points are the placed ones.

-- a row's camera or source
unfoldable pub near_end : List ℕ → List Vec3 → ℕ → Vec3
near_end ends cs r = at cs (first_end ends r)

-- a row's point or target
unfoldable pub far_end : Shape → List ℕ → List Float → List Vec3 → ℕ → Vec3
far_end s ends points cs r = cond (is_bearing s r) (get vector points (3 * second_end ends r)) (at cs (second_end ends r))

-- point - camera, or target - source
unfoldable pub baseline_in : Shape → List ℕ → List Float → List Vec3 → ℕ → Vec3
baseline_in s ends points cs r = minus (far_end s ends points cs r) (near_end ends cs r)

unfoldable pub dot_in : Shape → List ℕ → List Float → List Float → List Vec3 → ℕ → Float
dot_in s ends rays points cs r = dot (get vector rays (3 * r)) (baseline_in s ends points cs r)

abbrev pub dots_of : Network → List Vec3 → List Float
dots_of net cs = field (rows net.shape) (dot_in net.shape net.ends net.rays net.positions cs)

-- ---- 'A scale answer is either kept, or renewed with a number.'

-- 'Kept: W below 1e-12; for a direction, no bearings and weight below 1e-12'. Of b bearings, and a direction of weight w:
unfoldable pub direction_kept : ℕ → Float → Bool
direction_kept b w = eqb b 0 && lt w tiny

unfoldable pub kept_by_weight : Network → ℕ → Bool
kept_by_weight net r =
    cond (is_bearing net.shape r) (lt (point_weight net (second_end net.ends r)) tiny) (direction_kept net.shape.bearings (weight_of net r))

-- 1e-5, the least that a scale is renewed to
abbrev pub least : Float
least = of_bits binary64 0x3ee4f8b588e368f1

-- '.. or squared baseline below 1e-12. Renewed: max(dot / squared baseline, 1e-5)'. Of ray v and baseline d:
unfoldable pub renewal : Vec3 → Vec3 → Scale
renewal v d = cond (lt (dot d d) tiny) Kept (Renewed (greater (div binary64 (dot v d) (dot d d)) least))

-- row r's answer, where `keeps` says whether its weight keeps the scale
unfoldable pub answer_in : Bool → Shape → List ℕ → List Float → List Float → List Vec3 → ℕ → Scale
answer_in keeps s ends rays points cs r = cond keeps Kept (renewal (get vector rays (3 * r)) (baseline_in s ends points cs r))

abbrev pub scale_answer : Network → List Vec3 → ℕ → Scale
scale_answer net cs r = answer_in (kept_by_weight net r) net.shape net.ends net.rays net.positions cs r

-- document 01's number for each answer: a kept scale is the old one
abbrev pub scale_number : Float → Scale → Float
scale_number old Kept = old
scale_number old (Renewed x) = x

-- row r's number
unfoldable pub new_scale_in : Bool → Shape → List ℕ → List Float → List Float → List Float → List Vec3 → ℕ → Float
new_scale_in keeps s ends rays scales points cs r = scale_number (get_or scales r nan) (answer_in keeps s ends rays points cs r)

unfoldable pub new_scale : Network → List Vec3 → ℕ → Float
new_scale net cs r = new_scale_in (kept_by_weight net r) net.shape net.ends net.rays net.scales net.positions cs r

abbrev pub scales_of : Network → List Vec3 → List Float
scales_of net cs = field (rows net.shape) (new_scale net cs)
