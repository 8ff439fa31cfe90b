-- The contract of the solve: all of demands 1 to 3 about it. A reader of this page can tell what an accepted placement means.
use Rattle.std.specs.Prelude.{Err, Ok, Result}
use Rattle.network.specs.declared.Refusal.{Refusal}
use Rattle.std.specs.Prelude.{ℕ, ◌≡◌, List, ◌++◌, drop, replicate, Float}
use Rattle.field.specs.Vec.{null}
use Rattle.field.specs.Buffer.{flat, load, vector}
use Rattle.network.specs.Network.{Network}
use Rattle.network.specs.Refusals.{marks_after}
use Rattle.system.specs.Work.{work_length}
use Rattle.recover.specs.Recover.{points_of}
use Rattle.iterative.specs.Reduced.{problem}
use Rattle.iterative.specs.Accepted.{Accepted as Meaning}
use Rattle.placement.specs.declared.Report.{Report}
use Rattle.placement.specs.Routes.{Submission, Placement, rejected, failing, placed, placement, report, early_verdict}

-- document 01's answer for each way in which a solve ends
abbrev pub answer_of : Network → Placement → Result Report Refusal
answer_of net (rejected r) = Err r
answer_of net (failing r) = Err r
answer_of net (placed route rounds cameras) = Ok (report net route rounds)

-- the cameras' output: n triples, or untouched on every refusal
abbrev pub cameras_after : Placement → List Float → List Float
cameras_after (rejected r) old = old
cameras_after (failing r) old = old
cameras_after (placed route rounds cameras) old = flat vector cameras

-- the points' output: m triples, recovered from the cameras, or untouched on every refusal
abbrev pub points_after : Network → Placement → List Float → List Float
points_after net (rejected r) old = old
points_after net (failing r) old = old
points_after net (placed route rounds cameras) old = flat vector (points_of net cameras)

-- the work buffer: untouched on 1 to 8; otherwise t zeros (+0.0) and then its surplus as it was
abbrev pub work_after : ℕ → Placement → List Float → List Float
work_after t (rejected r) old = old
work_after t (failing r) old = replicate t null ++ drop t old
work_after t (placed route rounds cameras) old = replicate t null ++ drop t old

-- of the submission i, the answer r, and each lent buffer before and after
pub record Solved (i : Submission) (r : Result Report Refusal) (marks marks' : List ℕ) (work work' cameras cameras' points points' : List Float) : Type 0 where
  pub answer : r ≡ answer_of i.net (placement i)
  pub cameras_out : cameras' ≡ cameras_after (placement i) cameras
  pub points_out : points' ≡ points_after i.net (placement i) points
  pub work_out : work' ≡ work_after (work_length i.net.shape i.route i.limit) (placement i) work
  -- untouched where 1 to 5 refuse; else 6 has been tested, and all B are zero, whatever the answer
  pub marks_out : marks' ≡ marks_after (early_verdict i) i.net.shape.bearings marks
  -- Demand 3. Whatever network is submitted, whatever its numbers overflow to and whatever the lent buffers held: where the iterative
  -- part answered (a report p of route 2), the cameras that the output holds and the rounds that are reported are such that
  -- every camera coordinate is finite; the anchor is three positive zeros; the residual of each of x, y and z, worked out afresh from
  -- the network and these cameras, is finite and at most (1e-10 × root of its right-side square sum + 1e-12) squared in double
  -- arithmetic; and the cameras and the count are those that the written method ends with, at most 8(n-1) clamped to 64..4000.
  -- (`Meaning` has a field for each of these clauses; `problem` is the system that the network forms, with the anchor that is reported.)
  pub meaning : (p : Report) → r ≡ Ok p → p.route ≡ 2 →
      (p.anchor ≡ (problem i.net).anchor) × Meaning (problem i.net) (load vector cameras' 0 i.net.shape.cameras) p.rounds
