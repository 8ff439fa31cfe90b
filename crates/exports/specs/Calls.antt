-- What each C function answers and leaves: the call of the Rattle function, and how its answer goes to C (specs/Codes). A primed list is what a
-- buffer holds at exit.
use Rattle.std.specs.Prelude.{Ok, Result}
use Rattle.std.specs.Prelude.{ℕ, ◌≡◌, List, length, Float}
use Rattle.network.specs.declared.Refusal.{Refusal}
use Rattle.network.specs.declared.Shape.{Shape}
use Rattle.network.specs.Refusals.{Verdict}
use Rattle.network.specs.Network.{Content, Graph}
use Rattle.network.specs.Refusals.{verdict, count_tests}
use Rattle.graph.specs.Outcome.{ConnectivityCall, ListingCall}
use Rattle.system.specs.Work.{length_of}
use Rattle.recover.specs.Recover.{dots_of, scales_of}
use Rattle.recover.specs.Calls.{PlacedNetwork, Filled, cameras_of}
use Rattle.placement.specs.Routes.{Submission}
use Rattle.placement.specs.Solved.{Solved}
use Rattle.image.specs.Tests.{counts_tests}
use Rattle.image.specs.Calls.{Lists, counts_of, Reads, Writes}
use Rattle.exports.specs.Codes.{code_of, report_of, yes_or_no, one, nothing, solved, counted, Unreported}
use Rattle.lists.specs.PointLists.{PointListsCall}

-- ---- any call

-- The call of the Rattle function has an answer, which goes to C as a code and a report; `tell` says what an accepted one tells.
pub record Answered {A : Type 0} (Call : Result A Refusal → Type 0) (tell : A → List ℕ) (code : ℕ) (report report' : List ℕ) : Type 0 where
  pub answer : Result A Refusal
  pub call : Call answer
  pub coded : code ≡ code_of answer
  pub reported : report' ≡ report_of tell answer report

-- A call whose report must have k numbers. The report's length is one of those that 3 tests ('a length differs from its count'), and 3 has its
-- turn after the tests before it, whose verdict is `earlier` (document 01, 'Refused calls': '1 to 8, and 20 to 22, are tested in number order').
-- Where the report has another length, `Kept` says that every other buffer holds what it held.
pub record Reporting {A : Type 0} (k : ℕ) (earlier : Verdict) (Kept : Type 0) (Call : Result A Refusal → Type 0)
    (tell : A → List ℕ) (code : ℕ) (report report' : List ℕ) : Type 0 where
  pub whole : length report ≡ k → Answered Call tell code report report'
  pub otherwise : (length report ≡ k → ⊥) → Unreported earlier code report report'
  pub kept : (length report ≡ k → ⊥) → Kept

-- 1 and 2 come before 3
abbrev pub count_verdict : Shape → Verdict
count_verdict s = verdict (count_tests s)

-- ---- graph calls

abbrev pub ConnectedCall : (g : Graph) (code : ℕ) (nodes nodes' report report' : List ℕ) → Type 0
ConnectedCall g code nodes nodes' =
    Reporting 1 (count_verdict g.shape) (nodes' ≡ nodes) (λ a. ConnectivityCall g a nodes nodes') yes_or_no code

abbrev pub PartsCall : (g : Graph) (code : ℕ) (nodes nodes' labels labels' report report' : List ℕ) → Type 0
PartsCall g code nodes nodes' labels labels' =
    Reporting 1 (count_verdict g.shape) ((nodes' ≡ nodes) × (labels' ≡ labels))
    (λ a. ListingCall g a nodes nodes' labels labels') one code

-- ---- the length of the work buffer

abbrev pub LengthCall : (s : Shape) (route limit code : ℕ) (report report' : List ℕ) → Type 0
LengthCall s route limit = Reporting 1 (count_verdict s) Unit (λ a. a ≡ length_of s route limit) one

-- ---- dots and scales

-- a call that fills the output with f of what it is lent
abbrev pub FilledCall : (i : PlacedNetwork) (f : PlacedNetwork → List Float) (code : ℕ) (marks marks' : List ℕ) (out out' : List Float)
    (report report' : List ℕ) → Type 0
FilledCall i f code marks marks' out out' =
    Reporting 1 (count_verdict i.net.shape) ((marks' ≡ marks) × (out' ≡ out))
    (λ a. Filled i (f i) a marks marks' out out') nothing code

abbrev pub DotsCall : (i : PlacedNetwork) (code : ℕ) (marks marks' : List ℕ) (out out' : List Float) (report report' : List ℕ) → Type 0
DotsCall i = FilledCall i (λ i. dots_of i.net (cameras_of i))

abbrev pub ScalesCall : (i : PlacedNetwork) (code : ℕ) (marks marks' : List ℕ) (out out' : List Float) (report report' : List ℕ) → Type 0
ScalesCall i = FilledCall i (λ i. scales_of i.net (cameras_of i))

-- ---- the solve

abbrev pub SolveCall : (i : Submission) (code : ℕ) (marks marks' : List ℕ) (work work' cameras cameras' points points' : List Float)
    (report report' : List ℕ) → Type 0
SolveCall i code marks marks' work work' cameras cameras' points points' =
    Reporting 4 (count_verdict i.net.shape) ((marks' ≡ marks) × (work' ≡ work) × (cameras' ≡ cameras) × (points' ≡ points))
    (λ a. Solved i a marks marks' work work' cameras cameras' points points') solved code

-- ---- images: 20 to 22, and then 1 and 2, come before 3

-- the counts of the bytes l
abbrev pub CountsCall : (l : List ℕ) (code : ℕ) (report report' : List ℕ) → Type 0
CountsCall l = Reporting 4 (verdict (counts_tests l)) Unit (λ a. a ≡ counts_of l) counted

-- the bytes l, read; `left` is what the five lists of `lent` hold afterwards
abbrev pub ReadCall : (l : List ℕ) (lent left : Lists) (code : ℕ) (report report' : List ℕ) → Type 0
ReadCall l lent left = Reporting 4 (verdict (counts_tests l)) (left ≡ lent) (λ a. Reads l lent a left) counted

abbrev pub WriteCall : (c : Content) (out out' : List ℕ) (code : ℕ) (report report' : List ℕ) → Type 0
WriteCall c out out' = Reporting 1 (count_verdict c.shape) (out' ≡ out) (λ a. Writes c out a out') one

-- ---- point lists: nothing comes before 3

abbrev pub ListCall : (m b : ℕ) (ends offsets offsets' listed listed' : List ℕ) (code : ℕ) (report report' : List ℕ) → Type 0
ListCall m b ends offsets offsets' listed listed' =
    Reporting 1 (Ok tt) ((offsets' ≡ offsets) × (listed' ≡ listed))
    (λ a. PointListsCall m b ends offsets listed a offsets' listed') nothing
