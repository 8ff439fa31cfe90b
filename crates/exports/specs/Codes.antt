-- How an answer goes to C: a code, 0 or the refusal's number, and the lent report: what was asked, or the refusal's place as its first number
-- (document 01: 'A refusal returns number and place') and the camera of 11 to 13 as its second (document 02, R-2).
use Rattle.std.specs.Prelude.{ℕ, ◌≡◌, List, [], ◌∷◌, Bool, cond, set, None, Option, Some, Result, Ok, Err}
use Rattle.network.specs.declared.Refusal.{Refusal}
use Rattle.network.specs.declared.Shape.{Shape}
use Rattle.network.specs.Refusals.{Verdict, camera, number, place}
use Rattle.placement.specs.declared.Report.{Report}

-- 0, or the refusal's number
abbrev pub code_of : {A : Type 0} → Result A Refusal → ℕ
code_of (Ok a) = 0
code_of (Err r) = number r

-- what a refusal tells, at the front of a report, as far as that has room: its place, and its camera where it has one
abbrev pub with_camera : Option ℕ → List ℕ → List ℕ
with_camera (Some c) report = set report 1 c
with_camera None report = report

abbrev pub refused_report : Refusal → List ℕ → List ℕ
refused_report r report = with_camera (camera r) (set report 0 (place r))

-- the report: what `tell` says of an answer, or what a refusal tells
abbrev pub report_of : {A : Type 0} → (A → List ℕ) → Result A Refusal → List ℕ → List ℕ
report_of tell (Ok a) report = tell a
report_of tell (Err r) report = refused_report r report

-- ---- what is told

-- connected is 1, not connected 0
abbrev pub yes_or_no : Bool → List ℕ
yes_or_no b = cond b 1 0 ∷ []

-- the number of parts, of doubles, of bytes
abbrev pub one : ℕ → List ℕ
one k = k ∷ []

-- a call that only fills buffers has nothing to report but a refusal
abbrev pub nothing : Unit {0} → List ℕ
nothing u = 0 ∷ []

-- a solve: anchor, route, rounds (document 01: 'An accepted solve reports ..'), few (document 02, R-11)
abbrev pub solved : Report → List ℕ
solved p = p.anchor ∷ p.route ∷ p.rounds ∷ p.few ∷ []

-- an image: n, m, B, E
abbrev pub counted : Shape → List ℕ
counted s = s.cameras ∷ s.points ∷ s.bearings ∷ s.directions ∷ []

-- ---- where the report has not its length: 3 in its turn, by the verdict of the tests before 3

-- the refusal of those tests, else 3
abbrev pub unreported_code : Verdict → ℕ
unreported_code (Err r) = number r
unreported_code (Ok u) = 3

-- what that refusal tells, as far as the report has room; a report that is refused itself is left, as every buffer is
abbrev pub unreported_report : Verdict → List ℕ → List ℕ
unreported_report (Err r) report = refused_report r report
unreported_report (Ok u) report = report

pub record Unreported (earlier : Verdict) (code : ℕ) (report report' : List ℕ) : Type 0 where
  pub coded : code ≡ unreported_code earlier
  pub reported : report' ≡ unreported_report earlier report
