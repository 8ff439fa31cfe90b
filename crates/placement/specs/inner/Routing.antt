-- What the functions of the solve require of the work buffer, and what they leave there.
use Rattle.std.specs.Prelude.{Err, Ok, Result}
use Rattle.network.specs.declared.Refusal.{Refusal}
use Rattle.placement.specs.declared.Report.{Report}
use Rattle.std.specs.Prelude.{ℕ, ◌≤◌, ◌<◌, ◌≡◌, List, false, drop, length, Float}
use Rattle.field.specs.declared.Vec3.{Vec3}
use Rattle.field.specs.Buffer.{load}
use Rattle.network.specs.declared.Shape.{Shape}
use Rattle.network.specs.Network.{Links, Network}
use Rattle.network.specs.Refusals.{bad_route}
use Rattle.network.specs.inner.Sound.{NetworkSound}
use Rattle.system.specs.System.{Weights, terms, weights_of}
use Rattle.system.specs.Work.{term, work_length}
use Rattle.system.specs.declared.CameraTerm.{CameraTerm}
use Rattle.system.specs.inner.Formed.{Segments, positions_in, weights_in}
use Rattle.iterative.specs.Method.{Ending, solution}
use Rattle.iterative.specs.Reduced.{problem_by}
use Rattle.cholesky.specs.declared.Breakdown.{Breakdown}
use Rattle.dense.specs.Dense.{dense_solution_by}
use Rattle.placement.specs.declared.routes.Finish.{Finish}
use Rattle.placement.specs.declared.routes.Route.{Route}
use Rattle.placement.specs.declared.routes.Route.TheVariants as route
use Rattle.placement.specs.Routes.{Placement, failing, placed, routed}
use Rattle.placement.specs.Solved.{answer_of, cameras_after, points_after}

-- ---- a route, over the system that stands in the buffer

abbrev pub route_number : Route → ℕ
route_number route.Dense = 1
route_number route.Iterative = 2
route_number route.IterativeThenDense = 3

-- a is a camera, 8 does not refuse, and the buffer has the length that the route needs
pub record RouteReady (s : Shape) (a route limit size : ℕ) : Type 0 where
  pub anchor : a < s.cameras
  pub legal : bad_route route limit ≡ false
  pub room : work_length s route limit ≤ size

-- how the iterative and the dense solve of that system end
abbrev pub iterative_in : Links → ℕ → List Float → Ending
iterative_in L a l = solution (problem_by L (weights_in L.shape l) (load term l 0 L.shape.cameras) a)

abbrev pub dense_in : Links → ℕ → List Float → Result (List Vec3) Breakdown
dense_in L a l = dense_solution_by L (weights_in L.shape l) (load term l 0 L.shape.cameras) a

-- how a route ended, with the cameras that stand in the buffer
abbrev pub ended_with : Result Finish Refusal → List Vec3 → Placement
ended_with (Err r) cameras = failing r
ended_with (Ok f) cameras = placed (route_number f.route) f.rounds cameras

-- The route that ends as x made l' of the buffer l, and ended as r. The first t numbers may have changed, but not the system.
pub record Routed (s : Shape) (t : ℕ) (x : Placement) (l l' : List Float) (r : Result Finish Refusal) : Type 0 where
  pub answer : ended_with r (positions_in s l') ≡ x
  pub segments : (w : Weights) (ts : List CameraTerm) → Segments s w ts l → Segments s w ts l'
  pub surplus : drop t l' ≡ drop t l
  pub size : length l' ≡ length l

-- ---- the whole solve

-- the answer, with an anchor and few
abbrev pub reported : ℕ → ℕ → Result Finish Refusal → Result Report Refusal
reported a few (Err r) = Err r
reported a few (Ok f) = Ok (record { anchor = a; route = route_number f.route; rounds = f.rounds; few = few })

-- an answer, with the cameras that stand in the buffer
abbrev pub outcome : Result Report Refusal → List Vec3 → Placement
outcome (Err r) cameras = failing r
outcome (Ok p) cameras = placed p.route p.rounds cameras

-- nothing was refused, and the buffer has the length that the route needs
pub record Checked (net : Network) (route limit size : ℕ) : Type 0 where
  pub sound : NetworkSound net
  pub legal : bad_route route limit ≡ false
  pub room : work_length net.shape route limit ≤ size

-- the network's system is formed and the route taken
pub record Ran (net : Network) (route limit : ℕ) (l l' : List Float) (r : Result Report Refusal) : Type 0 where
  pub ended : outcome r (positions_in net.shape l') ≡ routed net route limit
  pub answer : r ≡ answer_of net (routed net route limit)
  pub segments : Segments net.shape (weights_of net) (terms net) l'
  pub surplus : drop (work_length net.shape route limit) l' ≡ drop (work_length net.shape route limit) l
  pub size : length l' ≡ length l

-- and the outputs are filled, where it is accepted
pub record OutputsFilled (net : Network) (route limit : ℕ) (r : Result Report Refusal) (work work' cameras cameras' points points' : List Float) : Type 0 where
  pub answer : r ≡ answer_of net (routed net route limit)
  pub cameras_out : cameras' ≡ cameras_after (routed net route limit) cameras
  pub points_out : points' ≡ points_after net (routed net route limit) points
  pub surplus : drop (work_length net.shape route limit) work' ≡ drop (work_length net.shape route limit) work
  pub size : length work' ≡ length work
