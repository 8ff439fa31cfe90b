-- Refusals 1 to 8 (document 01, 'Refused calls'): tested in number order, each at its lowest place.
use Rattle.network.specs.declared.Cause.TheVariants as cause
use Rattle.std.specs.Prelude.{Err, None, Ok, Option, Result, Some}
use Rattle.std.specs.Prelude.{ℕ, ◌+◌, ◌-◌, ◌*◌, List, [], ◌∷◌, ◌++◌, Bool, cond, not, ◌&&◌, ◌||◌, length, get_or, replicate, eqb, ltb, leb, Float}
use Rattle.std.specs.Float.{nan}
use Rattle.std.specs.Float.Ieee.{lt}
use Rattle.std.specs.Float.Ieee.Scale.{finite}
use Rattle.field.specs.Vec.{null, is_finite}
use Rattle.std.specs.Option.{option_or}
use Rattle.std.specs.Result.{result_and}
use Rattle.field.specs.Count.{lowest, shift}
use Rattle.field.specs.Buffer.{get, vector}
use Rattle.network.specs.declared.Cause.{Cause}
use Rattle.network.specs.declared.CameraSum.{CameraSum}
use Rattle.network.specs.declared.CameraSum.TheVariants as sum
use Rattle.network.specs.declared.Refusal.{Refusal}
use Rattle.network.specs.declared.Refusal.TheVariants.{At, Sum}
use Rattle.network.specs.declared.Shape.{Shape}
use Rattle.network.specs.Network.{Graph, Network, rows, first_end, second_end}
use Rattle.network.specs.Lists.{lists_hold}

-- ---- a refusal's number, as the table of causes has it (11 to 13 also as document 02, R-2)

abbrev pub cause_number : Cause → ℕ
cause_number cause.Cameras = 1
cause_number cause.Sizes = 2
cause_number cause.Lengths = 3
cause_number cause.OutOfRange = 4
cause_number cause.Loop = 5
cause_number cause.PointLists = 6
cause_number cause.Domain = 7
cause_number cause.Route = 8
cause_number cause.Diagonal = 9
cause_number cause.Dimension = 14
cause_number cause.Pivot = 15
cause_number cause.Factor = 16
cause_number cause.Solution = 17
cause_number cause.Head = 20
cause_number cause.Pairs = 21
cause_number cause.Section = 22
cause_number cause.Room = 23

abbrev pub sum_number : CameraSum → ℕ
sum_number sum.Curvature = 11
sum_number sum.Product = 12
sum_number sum.Residual = 13

abbrev pub number : Refusal → ℕ
number (At k p) = cause_number k
number (Sum s k c) = sum_number s

-- 'component and camera': a sum's place is its component, and it alone has a camera
abbrev pub place : Refusal → ℕ
place (At k p) = p
place (Sum s k c) = k

abbrev pub camera : Refusal → Option ℕ
camera (At k p) = None
camera (Sum s k c) = Some c

-- ---- tests in order

-- what a test says: nothing, or a refusal
abbrev pub Verdict : Type 0
Verdict = Result (Unit {0}) Refusal

abbrev pub refuse : Cause → ℕ → Verdict
refuse k p = Err (At k p)

-- the cause k at place 0, where b holds
unfoldable pub test : Cause → Bool → Verdict
test k b = cond b (refuse k 0) (Ok tt)

-- the cause k at a place, where there is one
unfoldable pub test_at : Cause → Option ℕ → Verdict
test_at k (Some r) = refuse k r
test_at k None = (Ok tt)

-- the first refusal of tests that are made in this order
unfoldable pub verdict : List Verdict → Verdict
verdict [] = (Ok tt)
verdict (v ∷ vs) = result_and v (verdict vs)

-- ---- places that are counted through

-- things of one kind, and which of them are bad
pub record Section : Type 0 where
  pub count : ℕ
  pub bad : ℕ → Bool

abbrev pub section : ℕ → (ℕ → Bool) → Section
section n p = record { count = n; bad = p }

-- the lowest bad place, counted through sections that follow one another
unfoldable pub running : List Section → Option ℕ
running [] = None
running (s ∷ ss) = option_or (lowest s.bad s.count) (shift s.count (running ss))

-- ---- A call's tests are stages, one after another: 1 and 2, then 3, and so on. Each stage is a list of tests.

-- ---- 1 and 2: the counts

-- n is 0 or over 4,096
unfoldable pub bad_cameras : Shape → Bool
bad_cameras s = eqb s.cameras 0 || ltb 4096 s.cameras

-- m, B or E over its limit
unfoldable pub bad_counts : Shape → Bool
bad_counts s = ltb 65536 s.points || (ltb 262144 s.bearings || ltb 65536 s.directions)

unfoldable pub count_tests : Shape → List Verdict
count_tests s = test cause.Cameras (bad_cameras s) ∷ test cause.Sizes (bad_counts s) ∷ []

-- ---- 3: the lengths that a call's slices must have. A call names those that it is lent.

-- of r rows, their ends and weights
unfoldable pub ends_fit : ℕ → List ℕ → List Float → Bool
ends_fit r ends weights = eqb (length ends) (2 * r) && eqb (length weights) r

-- of r rows, their rays and scales
unfoldable pub rays_fit : ℕ → List Float → List Float → Bool
rays_fit r rays scales = eqb (length rays) (3 * r) && eqb (length scales) r

-- n vectors
unfoldable pub vectors_fit : ℕ → List Float → Bool
vectors_fit n l = eqb (length l) (3 * n)

-- the lists of m points that name b bearings
unfoldable pub lists_fit : ℕ → ℕ → List ℕ → List ℕ → Bool
lists_fit m b offsets listed = eqb (length offsets) (m + 1) && eqb (length listed) b

-- the slices of a network without its point lists: those of an image
unfoldable pub content_fits : Shape → List ℕ → List Float → List Float → List Float → List Float → Bool
content_fits s ends rays weights scales positions =
    ends_fit (rows s) ends weights && (rays_fit (rows s) rays scales && vectors_fit s.points positions)

-- every slice of the network
unfoldable pub network_fits : Network → Bool
network_fits net =
    let s = net.shape in
    content_fits s net.ends net.rays net.weights net.scales net.positions
    && lists_fit s.points s.bearings net.offsets net.listed

unfoldable pub length_tests : Bool → List Verdict
length_tests fit = test cause.Lengths (not fit) ∷ []

-- ---- 4 and 5: the rows' ends

-- of n cameras, m points and b bearings, row r has a camera or point number out of range
unfoldable pub strays : ℕ → ℕ → ℕ → List ℕ → ℕ → Bool
strays n m b ends r = leb n (first_end ends r) || leb (cond (ltb r b) m n) (second_end ends r)

-- row r is a direction with source = target
unfoldable pub loops : ℕ → List ℕ → ℕ → Bool
loops b ends r = leb b r && eqb (first_end ends r) (second_end ends r)

unfoldable pub end_tests : Shape → List ℕ → List Verdict
end_tests s ends =
    test_at cause.OutOfRange (lowest (strays s.cameras s.points s.bearings ends) (rows s))
    ∷ test_at cause.Loop (lowest (loops s.bearings ends) (rows s))
    ∷ []

-- ---- 6: the point lists

unfoldable pub list_tests : Shape → List ℕ → List ℕ → List ℕ → List Verdict
list_tests s ends offsets listed = test cause.PointLists (not (lists_hold s.points s.bearings ends offsets listed)) ∷ []

-- R-6: 'a mark buffer of B numbers .. ends all zero once 6 has been tested', whatever 6 or a later test then says. The verdict is that of the tests
-- before 6: where one of these refuses, the b marks stay as they were.
abbrev pub marks_after : Verdict → ℕ → List ℕ → List ℕ
marks_after (Err r) b marks = marks
marks_after (Ok tt) b marks = replicate b 0

-- ---- 7: the domain

-- a weight that is not finite, or below zero (-0.0 is not)
unfoldable pub bad_weight : List Float → ℕ → Bool
bad_weight weights r = not (finite (get_or weights r nan)) || lt (get_or weights r nan) null

-- a scale that is not finite, or not above zero
unfoldable pub bad_scale : List Float → ℕ → Bool
bad_scale scales r = not (finite (get_or scales r nan)) || not (lt null (get_or scales r nan))

-- vector i of a list of them is not finite
unfoldable pub bad_vector : List Float → ℕ → Bool
bad_vector l i = not (is_finite (get vector l (3 * i)))

unfoldable pub bad_row : List Float → List Float → List Float → ℕ → Bool
bad_row weights scales rays r = bad_weight weights r || (bad_scale scales r || bad_vector rays r)

-- the weight part of 7, which is all that graph calls test
unfoldable pub weight_tests : Shape → List Float → List Verdict
weight_tests s weights = test_at cause.Domain (lowest (bad_weight weights) (rows s)) ∷ []

-- rows and old points are counted through
abbrev pub row_sections : Shape → List Float → List Float → List Float → List Float → List Section
row_sections s rays weights scales positions =
    section (rows s) (bad_row weights scales rays) ∷ section s.points (bad_vector positions) ∷ []

unfoldable pub domain_tests : List Section → List Verdict
domain_tests sections = test_at cause.Domain (running sections) ∷ []

-- ---- 8: the route

-- route not 1..3 or dense limit over 256
unfoldable pub bad_route : ℕ → ℕ → Bool
bad_route route limit = ltb route 1 || (ltb 3 route || ltb 256 limit)

unfoldable pub route_tests : ℕ → ℕ → List Verdict
route_tests route limit = test cause.Route (bad_route route limit) ∷ []

-- d: n - 1 where the route may go dense within the limit, else 0; 0 too where 8 would refuse
unfoldable pub dense_rows : ℕ → ℕ → ℕ → ℕ
dense_rows n route limit = cond (bad_route route limit || (eqb route 2 || ltb limit (n - 1))) 0 (n - 1)

-- ---- stages that several calls share

-- 4, 5 and the weight part of 7: graph calls
unfoldable pub graph_row_tests : Graph → List Verdict
graph_row_tests g = end_tests g.shape g.ends ++ weight_tests g.shape g.weights

-- 1 to 5, the tests before 6, of a call whose slices all have their lengths where `fit` holds
unfoldable pub early_tests : Shape → Bool → List ℕ → List Verdict
early_tests s fit ends = count_tests s ++ (length_tests fit ++ end_tests s ends)

-- 4 to 6
unfoldable pub link_tests : Shape → List ℕ → List ℕ → List ℕ → List Verdict
link_tests s ends offsets listed = end_tests s ends ++ list_tests s ends offsets listed

-- 4 to 7 of the whole network; a call that is lent camera positions adds their section
unfoldable pub network_row_tests : Network → List Section → List Verdict
network_row_tests net cameras =
    link_tests net.shape net.ends net.offsets net.listed
    ++ domain_tests (row_sections net.shape net.rays net.weights net.scales net.positions ++ cameras)

-- 1 to 7 of the network alone: a call that is lent buffers tests their lengths in 3 too
unfoldable pub network_tests : Network → List Verdict
network_tests net = count_tests net.shape ++ (length_tests (network_fits net) ++ network_row_tests net [])
