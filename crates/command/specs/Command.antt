-- What the solve program answers and prints (document 01, 'Network image (added) and the solve program').
use Rattle.network.specs.declared.Cause.TheVariants.{Cameras, Sizes}
use Rattle.std.specs.Prelude.{Err, Ok, Result}
use Rattle.std.specs.Prelude.{ℕ, ◌≡◌, Bool, List, [], ◌∷◌, ◌++◌, length, ltb}
use Rattle.field.specs.declared.Vec3.{Vec3}
use Rattle.network.specs.declared.Refusal.{Refusal}
use Rattle.network.specs.Refusals.{Verdict}
use Rattle.network.specs.declared.Shape.{Shape}
use Rattle.network.specs.Network.{Content, Graph, graph, Network, network}
use Rattle.network.specs.Refusals.{test, verdict}
use Rattle.graph.specs.Outcome.{Labelled}
use Rattle.graph.specs.Distinct.{distinct}
use Rattle.recover.specs.Recover.{points_of}
use Rattle.iterative.specs.Reduced.{problem}
use Rattle.iterative.specs.Accepted.{Accepted as Meaning}
use Rattle.placement.specs.declared.Report.{Report}
use Rattle.placement.specs.Routes.{Placement, rejected, failing, placed, report, routed}
use Rattle.placement.specs.Solved.{answer_of}
use Rattle.lists.specs.PointLists.{offsets_of, listed_of}
use Rattle.image.specs.Reading.{shape_at, content_of}
use Rattle.image.specs.Tests.{counts_tests, row_tests}
use Rattle.text.specs.Text.{placed_text, refused_text}
use Rattle.text.specs.Lent.{Put}
use Rattle.command.specs.declared.Printed.{Printed}

-- ---- what is refused

-- 'an image of at most 16,384 bytes (longer: refused first, as 2, place 0)'
unfoldable pub too_long : List ℕ → Bool
too_long bytes = ltb 16384 (length bytes)

-- 'at most 64 cameras (more: 1, place 0)'
unfoldable pub too_many : Shape → Bool
too_many s = ltb 64 s.cameras

-- The tests in order: the length; 20 to 22, then 1 and 2 of the counts; the 64 cameras; 4, 5 and 7 of the rows and points.
-- 3, 6 and 8 refuse nothing: the program's own buffers have the lengths that the counts say, and the lists and the route are its own.
-- Nor does 2 of the counts, after 22: what is over those limits does not fit into 16,384 bytes.
unfoldable pub program_tests : List ℕ → List Verdict
program_tests bytes =
    (test Sizes (too_long bytes) ∷ [])
    ++ (counts_tests bytes
    ++ ((test Cameras (too_many (shape_at 36 bytes)) ∷ [])
    ++ row_tests (content_of bytes)))

-- ---- what is solved

abbrev pub graph_of : Content → Graph
graph_of c = graph c.shape c.ends c.weights

-- 'builds the point lists': a content with the lists of its rows, ascending under each point. Refusal 6 admits these: `sorted-holds` of crates/lists.
abbrev pub network_of : Content → Network
network_of c =
    let m = c.shape.points in
    let b = c.shape.bearings in
    network c.shape c.ends c.rays c.weights c.scales c.positions (offsets_of c.ends b m) (listed_of c.ends b m)

-- 'uses route 3 with dense limit 48'
abbrev pub ending : Network → Placement
ending net = routed net 3 48

-- 'Lines: counts; number of parts; the report; each camera, then each point', with R-11's `few K` after the report line
abbrev pub placed_lines : Shape → (parts : ℕ) → Report → (cameras points : List Vec3) → List ℕ
placed_lines s parts p cameras points =
    placed_text s.cameras s.points s.bearings s.directions parts p.anchor p.route p.rounds p.few cameras points

-- 'A refusal prints only' its line.
abbrev pub lines : Network → (parts : ℕ) → Placement → List ℕ
lines net parts (rejected r) = refused_text r
lines net parts (failing r) = refused_text r
lines net parts (placed route rounds cameras) = placed_lines net.shape parts (report net route rounds) cameras (points_of net cameras)

-- Demand 3, of what is printed. The text has the bits of these cameras, and of them and the report p all of the demand is true: `Meaning` has a field
-- for each clause. (`problem` is the system that the network forms.)
pub record CamerasMeant (net : Network) (parts : ℕ) (p : Report) (text : List ℕ) : Type 0 where
  pub cameras : List Vec3
  pub printed : text ≡ placed_lines net.shape parts p cameras (points_of net cameras)
  pub anchor : p.anchor ≡ (problem net).anchor
  pub meaning : Meaning (problem net) cameras p.rounds

-- An image that no test refuses, with the content c: the answer and the text. There is one list of labels: `labelled-unique` of crates/graph.
pub record ImageSolved (c : Content) (answer : Result Report Refusal) (text : List ℕ) : Type 0 where
  pub labels : List ℕ
  pub labelled : Labelled (graph_of c) labels
  pub answered : answer ≡ answer_of (network_of c) (ending (network_of c))
  pub printed : text ≡ lines (network_of c) (distinct labels) (ending (network_of c))
  -- where the iterative part answered (`anchor A route 2 rounds K`)
  pub meaning : (p : Report) → answer ≡ Ok p → p.route ≡ 2 → CamerasMeant (network_of c) (distinct labels) p text

-- ---- the whole program

-- Of the bytes of its input: the answer and the text that it prints. The bytes alone fix both: `OutcomeUnique`.
pub record Outcome (bytes : List ℕ) (answer : Result Report Refusal) (text : List ℕ) : Type 0 where
  pub refused : (r : Refusal) → verdict (program_tests bytes) ≡ Err r → (answer ≡ Err r) × (text ≡ refused_text r)
  pub passed : verdict (program_tests bytes) ≡ Ok tt → ImageSolved (content_of bytes) answer text

-- proved in proofs/Unique.antt: `outcome-unique`
pub record OutcomeUnique : Type 0 where
  pub holds : (bytes : List ℕ) (a b : Result Report Refusal) (t u : List ℕ) → Outcome bytes a t → Outcome bytes b u → (a ≡ b) × (t ≡ u)

-- The answer and some text are such that P holds of them.
-- The text stands at the front of the buffer, all of it, and every byte after it is as it was.
pub record Prints (P : Result Report Refusal → List ℕ → Type 0) (r : Printed) (buffer buffer' : List ℕ) : Type 0 where
  pub text : List ℕ
  pub put : Put buffer buffer' 0 text 65536 r.length
  pub holds : P r.answer text

-- So the bytes and what the buffer held fix what `run` answers and what it leaves there: proved in proofs/Unique.antt, `run-unique`.
pub record RunUnique : Type 0 where
  pub holds : (bytes buffer : List ℕ) (r s : Printed) (x y : List ℕ) → Prints (Outcome bytes) r buffer x → Prints (Outcome bytes) s buffer y →
      (r ≡ s) × (x ≡ y)
