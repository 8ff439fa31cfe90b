-- What the steps of `run` require, and what they answer.
use Rattle.std.specs.Prelude.{Err, Ok, Result}
use Rattle.placement.specs.declared.Report.{Report}
use Rattle.std.specs.Prelude.{ℕ, ◌*◌, ◌≤◌, ◌≡◌, true, List, length, Float}
use Rattle.field.specs.Buffer.{vectors_in}
use Rattle.network.specs.declared.Refusal.{Refusal}
use Rattle.network.specs.declared.Shape.{Shape}
use Rattle.network.specs.Network.{Content, Graph, rows}
use Rattle.network.specs.Refusals.{verdict, count_tests, ends_fit, end_tests, domain_tests, graph_row_tests}
use Rattle.graph.specs.Outcome.{Labelled}
use Rattle.graph.specs.Distinct.{distinct}
use Rattle.lists.specs.PointLists.{offsets_of, listed_of}
use Rattle.image.specs.Reading.{shape_at}
use Rattle.image.specs.Tests.{content_fits, content_sections, counts_tests}
use Rattle.text.specs.Text.{refused_text}
use Rattle.command.specs.Command.{placed_lines, Prints}
use Rattle.command.specs.declared.Printed.{Printed}
use Rattle.command.specs.declared.Reported.{Reported}

-- an image of at most 16,384 bytes whose counts pass and are those of s
pub record CountsPassed (l : List ℕ) (s : Shape) : Type 0 where
  pub short : length l ≤ 16384
  pub passed : verdict (counts_tests l) ≡ Ok tt
  pub shape : s ≡ shape_at 36 l

-- at most 64 cameras, and points and rows that fit into 16,384 bytes
pub record Small (s : Shape) : Type 0 where
  pub cameras : s.cameras ≤ 64
  pub points : s.points ≤ 680
  pub rows : rows s ≤ 340

-- such an image with counts that are small
pub record CountsTaken (l : List ℕ) (s : Shape) : Type 0 where
  pub passed : CountsPassed l s
  pub small : Small s

-- a small content that passes the reader's tests
pub record ContentSound (c : Content) : Type 0 where
  pub small : Small c.shape
  pub counts : verdict (count_tests c.shape) ≡ Ok tt
  pub fit : content_fits c ≡ true
  pub ends : verdict (end_tests c.shape c.ends) ≡ Ok tt
  pub domain : verdict (domain_tests (content_sections c)) ≡ Ok tt

-- the point lists that are built of the rows
pub record Listed (s : Shape) (ends offsets listed : List ℕ) : Type 0 where
  pub starts : offsets ≡ offsets_of ends s.bearings s.points
  pub rows : listed ≡ listed_of ends s.bearings s.points

-- the buffers of a solve: the work buffer has room, and the marks and outputs have the lengths that the counts say
pub record BuffersSized (s : Shape) (ms : List ℕ) (l cs ps : List Float) : Type 0 where
  pub marks : length ms ≡ s.bearings
  pub work : length l ≡ 7044
  pub cameras : length cs ≡ 3 * s.cameras
  pub points : length ps ≡ 3 * s.points

-- a small graph that passes the tests of the parts listing, whose buffers have room
pub record GraphPassed (g : Graph) : Type 0 where
  pub small : Small g.shape
  pub counts : verdict (count_tests g.shape) ≡ Ok tt
  pub fit : ends_fit (rows g.shape) g.ends g.weights ≡ true
  pub rows : verdict (graph_row_tests g) ≡ Ok tt

-- k is the number of parts of g
pub record PartCount (g : Graph) (k : ℕ) : Type 0 where
  pub labels : List ℕ
  pub labelled : Labelled g labels
  pub counted : k ≡ distinct labels

-- the answer is x and the text is t
pub record Exactly (x : Result Report Refusal) (t : List ℕ) (answer : Result Report Refusal) (text : List ℕ) : Type 0 where
  pub answered : answer ≡ x
  pub printed : text ≡ t

-- a refusal and its line
abbrev pub RefusedAs : Refusal → Result Report Refusal → List ℕ → Type 0
RefusedAs r = Exactly (Err r) (refused_text r)

-- what `run` answers of a step that has printed
abbrev pub printed : Reported → Printed
printed p = record { answer = Ok p.report; length = p.length }

-- A step of `run`: it has printed an answer of which P holds. Or it refuses, and has printed nothing: then P holds of the refusal and its line.
unfoldable pub Steps : (Result Report Refusal → List ℕ → Type 0) → Result Reported Refusal → (buffer buffer' : List ℕ) → Type 0
Steps P (Err r) buffer buffer' = P (Err r) (refused_text r) × (buffer' ≡ buffer)
Steps P (Ok p) buffer buffer' = Prints P (printed p) buffer buffer'

-- an answer and its lines, where cs and ps hold the cameras' and points' numbers
abbrev pub text_of : Shape → (parts : ℕ) → Result Report Refusal → (cs ps : List Float) → List ℕ
text_of s parts (Err r) cs ps = refused_text r
text_of s parts (Ok p) cs ps = placed_lines s parts p (vectors_in cs) (vectors_in ps)

abbrev pub AnsweredAs : Shape → (parts : ℕ) → Result Report Refusal → (cs ps : List Float) → Result Report Refusal → List ℕ → Type 0
AnsweredAs s parts x cs ps = Exactly x (text_of s parts x cs ps)
