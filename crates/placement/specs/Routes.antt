-- The routes of a solve (document 01, 'Size and domain': 'Routes'), and how a solve ends.
use Rattle.network.specs.declared.Cause.{Cause}
use Rattle.network.specs.declared.Cause.TheVariants as cause
use Rattle.std.specs.Prelude.{Err, Ok, Result}
use Rattle.std.specs.Prelude.{ℕ, ◌-◌, ◌*◌, List, [], ◌++◌, Bool, cond, ◌&&◌, eqb, leb}
use Rattle.field.specs.declared.Vec3.{Vec3}
use Rattle.network.specs.declared.Refusal.{Refusal}
use Rattle.network.specs.declared.Refusal.TheVariants.{At}
use Rattle.network.specs.Refusals.{Verdict}
use Rattle.network.specs.Network.{Network}
use Rattle.network.specs.declared.Shape.{Shape}
use Rattle.network.specs.Refusals.{verdict, count_tests, length_tests, early_tests, network_fits, network_row_tests, route_tests}
use Rattle.system.specs.System.{anchor}
use Rattle.system.specs.Counts.{few}
use Rattle.system.specs.Work.{work_length}
use Rattle.iterative.specs.Method.{Ending, accepted, refused, solution}
use Rattle.iterative.specs.Reduced.{problem}
use Rattle.cholesky.specs.declared.Breakdown.{Breakdown}
use Rattle.cholesky.specs.declared.Breakdown.TheVariants as breakdown
use Rattle.dense.specs.Dense.{dense_solution}
use Rattle.placement.specs.declared.Report.{Report}

-- What is submitted: the network, the route and the dense limit. Of the lent buffers there are only their lengths, so what they held makes no
-- difference.
pub record Submission : Type 0 where
  pub net : Network
  pub marks : ℕ
  pub route : ℕ
  pub limit : ℕ
  pub work : ℕ
  pub cameras : ℕ
  pub points : ℕ

abbrev pub submission : Network → ℕ → ℕ → ℕ → ℕ → ℕ → ℕ → Submission
submission net marks route limit work cameras points =
    record { net = net; marks = marks; route = route; limit = limit; work = work; cameras = cameras; points = points }

-- How a solve ends: rejected by 1 to 8; failed by 9, or 11 to 17; or with the answering route, its rounds and the cameras.
pub data Placement : Type 0 where
  rejected : Refusal → Placement
  failing : Refusal → Placement
  placed : (route rounds : ℕ) → List Vec3 → Placement

-- 'An accepted solve reports anchor, answering route, and rounds', and R-11's few. The network alone fixes anchor and few.
abbrev pub report : Network → ℕ → ℕ → Report
report net route rounds = record { anchor = anchor net; route = route; rounds = rounds; few = few net }

abbrev pub failing_at : Cause → ℕ → Placement
failing_at k p = failing (At k p)

abbrev pub rejected_at : Cause → ℕ → Placement
rejected_at k p = rejected (At k p)

-- 15 to 17: where the dense solve breaks down
abbrev pub broken : Breakdown → Refusal
broken (breakdown.Pivot i) = At cause.Pivot i
broken (breakdown.Factor i) = At cause.Factor i
broken (breakdown.Solution i) = At cause.Solution i

-- dense as route r: the cameras, after no round, or 15 to 17
abbrev pub by_dense : ℕ → Result (List Vec3) Breakdown → Placement
by_dense r (Ok cameras) = placed r 0 cameras
by_dense r (Err b) = failing (broken b)

-- dense where n - 1 is within the limit, else x
abbrev pub dense_or : Bool → ℕ → Result (List Vec3) Breakdown → Placement → Placement
dense_or within r y x = cond within (by_dense r y) x

-- the iterative answer, or what follows its refusal
abbrev pub by_iterative : Ending → (Refusal → Placement) → Placement
by_iterative (accepted s) f = placed 2 s.round.count s.positions
by_iterative (refused r) f = f r

-- what follows on route 3: dense within the limit, else that refusal
abbrev pub fall_back : ℕ → ℕ → Result (List Vec3) Breakdown → Refusal → Placement
fall_back d limit y r = dense_or (leb d limit) 3 y (failing r)

-- '1 dense; 2 iterative; 3 iterative, then dense if that refused and n-1 is within the dense limit': the route, with d = n - 1 dense
-- rows, and the answers x of the iterative and y of the dense solve. Route 1 over the limit is 14 at d. No other number is a route: 8.
unfoldable pub routed_by : ℕ → ℕ → ℕ → Ending → Result (List Vec3) Breakdown → Placement
routed_by d route limit x y =
    cond (eqb route 1) (dense_or (leb d limit) 1 y (failing_at cause.Dimension d))
    (cond (eqb route 2) (by_iterative x failing)
    (cond (eqb route 3) (by_iterative x (fall_back d limit y))
    (rejected_at cause.Route 0)))

unfoldable pub routed : Network → ℕ → ℕ → Placement
routed net route limit = routed_by (net.shape.cameras - 1) route limit (solution (problem net)) (dense_solution net)

-- 3 tests the marks (B numbers), the outputs (3n and 3m) and the work buffer (at least T)
unfoldable pub buffers_fit : Shape → ℕ → ℕ → ℕ → ℕ → ℕ → ℕ → Bool
buffers_fit s marks route limit work cameras points =
    eqb marks s.bearings && (eqb cameras (3 * s.cameras) && (eqb points (3 * s.points) && leb (work_length s route limit) work))

-- every slice that is lent has its length
abbrev pub lent_fits : Submission → Bool
lent_fits i =
    network_fits i.net && buffers_fit i.net.shape i.marks i.route i.limit i.work i.cameras i.points

-- 1 and 2; 3, of the buffers too; 4 to 7; 8
unfoldable pub submission_tests : Submission → List Verdict
submission_tests i =
    count_tests i.net.shape
    ++ (length_tests (lent_fits i)
    ++ (network_row_tests i.net [] ++ route_tests i.route i.limit))

abbrev pub submission_verdict : Submission → Verdict
submission_verdict i = verdict (submission_tests i)

-- of 1 to 5, which come before 6
abbrev pub early_verdict : Submission → Verdict
early_verdict i = verdict (early_tests i.net.shape (lent_fits i) i.net.ends)

abbrev pub checked : Verdict → Placement → Placement
checked (Err r) p = rejected r
checked (Ok tt) p = p

-- how the submission ends: checks 1 to 8, then the route
unfoldable pub placement : Submission → Placement
placement i = checked (submission_verdict i) (routed i.net i.route i.limit)
