-- What a call of dots or scales is lent, and what it leaves (document 01: 'dots and scales fill B, then E numbers'; they use 1 to 7).
use Rattle.std.specs.Prelude.{Err, Ok}
use Rattle.std.specs.Prelude.{ℕ, List, [], ◌∷◌, ◌++◌, Bool, ◌&&◌, ◌≡◌, eqb, Float}
use Rattle.field.specs.declared.Vec3.{Vec3}
use Rattle.field.specs.Buffer.{vectors_in}
use Rattle.network.specs.declared.Shape.{Shape}
use Rattle.network.specs.Refusals.{Verdict}
use Rattle.network.specs.Network.{Network, rows}
use Rattle.network.specs.Refusals.{verdict, count_tests, length_tests, early_tests, network_fits, vectors_fit, network_row_tests, marks_after}
use Rattle.network.specs.Refusals.{section, bad_vector}
use Rattle.recover.specs.Part.{marked}
use Rattle.recover.specs.Recover.{dots_of, scales_of}

-- the network, both camera buffers with the mark, and the lengths of the mark buffer and the output
pub record PlacedNetwork : Type 0 where
  pub net : Network
  pub marks : ℕ
  pub current : List Float
  pub trial : List Float
  pub mark : Bool
  pub room : ℕ

abbrev pub placed : Network → ℕ → List Float → List Float → Bool → ℕ → PlacedNetwork
placed net marks current trial mark room =
    record { net = net; marks = marks; current = current; trial = trial; mark = mark; room = room }

-- the buffer that the mark names, and the cameras that it holds: n, where nothing is refused
abbrev pub chosen : PlacedNetwork → List Float
chosen i = marked i.current i.trial i.mark

abbrev pub cameras_of : PlacedNetwork → List Vec3
cameras_of i = vectors_in (chosen i)

-- the mark buffer holds B numbers, both camera buffers 3n, and the output B + E
unfoldable pub buffers_fit : Shape → ℕ → List Float → List Float → ℕ → Bool
buffers_fit s marks current trial room =
    eqb marks s.bearings && (vectors_fit s.cameras current && (vectors_fit s.cameras trial && eqb room (rows s)))

-- every slice that the call is lent has its length
abbrev pub lent_fits : PlacedNetwork → Bool
lent_fits i = network_fits i.net && buffers_fit i.net.shape i.marks i.current i.trial i.room

-- 1 and 2; 3, of the buffers too; 4 to 7, where 7 tests the marked cameras after the points
unfoldable pub placed_tests : PlacedNetwork → List Verdict
placed_tests i =
    let s = i.net.shape in
    count_tests s ++ (length_tests (lent_fits i) ++ network_row_tests i.net (section s.cameras (bad_vector (chosen i)) ∷ []))

abbrev pub placed_verdict : PlacedNetwork → Verdict
placed_verdict i = verdict (placed_tests i)

-- of 1 to 5, which come before 6
abbrev pub early_verdict : PlacedNetwork → Verdict
early_verdict i = verdict (early_tests i.net.shape (lent_fits i) i.net.ends)

-- the output: untouched on a refusal, else filled whole
abbrev pub filled : Verdict → List Float → List Float → List Float
filled (Err r) out xs = out
filled (Ok tt) out xs = xs

-- What the call leaves: its answer, its output, and the marks (untouched where 1 to 5 refuse, else all zero); everything else is only read.
pub record Filled (i : PlacedNetwork) (xs : List Float) (r : Verdict) (marks marks' : List ℕ) (out out' : List Float) : Type 0 where
  pub answer : r ≡ placed_verdict i
  pub output : out' ≡ filled (placed_verdict i) out xs
  pub marks_out : marks' ≡ marks_after (early_verdict i) i.net.shape.bearings marks

abbrev pub DotsFilled : PlacedNetwork → Verdict → List ℕ → List ℕ → List Float → List Float → Type 0
DotsFilled i = Filled i (dots_of i.net (cameras_of i))

abbrev pub ScalesFilled : PlacedNetwork → Verdict → List ℕ → List ℕ → List Float → List Float → Type 0
ScalesFilled i = Filled i (scales_of i.net (cameras_of i))
