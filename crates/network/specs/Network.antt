-- The network as it is lent (document 01, 'Size and domain'), over plain lists.
-- A row is a bearing or a direction. Rows are numbered through, bearings first: bearings are 0 .. B - 1, directions B .. B + E - 1.
use Rattle.std.specs.Prelude.{ℕ, ◌+◌, ◌-◌, ◌*◌, List, Bool, get_or, ltb, Float}
use Rattle.std.specs.Float.{nan}
use Rattle.field.specs.declared.Vec3.{Vec3}
use Rattle.field.specs.Buffer.{get, vector}
-- the four counts n, m, B, E (`cameras`, `points`, `bearings`, `directions`): the struct of src/
use Rattle.network.specs.declared.Shape.{Shape}
use Rattle.network.specs.declared.Span.{Span}

abbrev pub shape : ℕ → ℕ → ℕ → ℕ → Shape
shape n m b e = record { cameras = n; points = m; bearings = b; directions = e }

-- B + E
abbrev pub rows : Shape → ℕ
rows s = s.bearings + s.directions

-- The whole network. `ends`: of each row, camera and point of a bearing, source and target of a direction. `rays`: of each row, its ray or
-- direction. `positions`: the old points. `offsets` and `listed` are the point lists: the rows under point p are `listed` at the places
-- from offset p up to offset p + 1.
pub record Network : Type 0 where
  pub shape : Shape
  pub ends : List ℕ
  pub rays : List Float
  pub weights : List Float
  pub scales : List Float
  pub positions : List Float
  pub offsets : List ℕ
  pub listed : List ℕ

-- the network that a call is lent: the counts, and the lists that its slices hold
abbrev pub network : Shape → List ℕ → List Float → List Float → List Float → List Float → List ℕ → List ℕ → Network
network s ends rays weights scales positions offsets listed = record {
  shape = s;
  ends = ends;
  rays = rays;
  weights = weights;
  scales = scales;
  positions = positions;
  offsets = offsets;
  listed = listed;
}

-- what an image holds: a network without its point lists
pub record Content : Type 0 where
  pub shape : Shape
  pub ends : List ℕ
  pub rays : List Float
  pub weights : List Float
  pub scales : List Float
  pub positions : List Float

abbrev pub content : Shape → List ℕ → List Float → List Float → List Float → List Float → Content
content s ends rays weights scales positions = record {
  shape = s;
  ends = ends;
  rays = rays;
  weights = weights;
  scales = scales;
  positions = positions;
}

abbrev pub content_of : Network → Content
content_of net = content net.shape net.ends net.rays net.weights net.scales net.positions

-- The rows' ends.
pub record RowEnds : Type 0 where
  pub shape : Shape
  pub ends : List ℕ

abbrev pub row_ends : Shape → List ℕ → RowEnds
row_ends s ends = record { shape = s; ends = ends }

-- What a graph call is lent: the rows' ends and weights.
pub record Graph : Type 0 where
  pub shape : Shape
  pub ends : List ℕ
  pub weights : List Float

abbrev pub graph : Shape → List ℕ → List Float → Graph
graph s ends weights = record { shape = s; ends = ends; weights = weights }

-- Which cameras and points the rows tie together: the rows' ends and the point lists.
pub record Links : Type 0 where
  pub shape : Shape
  pub ends : List ℕ
  pub offsets : List ℕ
  pub listed : List ℕ

abbrev pub links : Shape → List ℕ → List ℕ → List ℕ → Links
links s ends offsets listed = record { shape = s; ends = ends; offsets = offsets; listed = listed }

abbrev pub graph_of : Network → Graph
graph_of net = graph net.shape net.ends net.weights

abbrev pub links_of : Network → Links
links_of net = links net.shape net.ends net.offsets net.listed

-- ---- a row's parts

-- camera or source
abbrev pub first_end : List ℕ → ℕ → ℕ
first_end ends r = get_or ends (2 * r) 0

-- point or target
abbrev pub second_end : List ℕ → ℕ → ℕ
second_end ends r = get_or ends (2 * r + 1) 0

abbrev pub is_bearing : Shape → ℕ → Bool
is_bearing s r = ltb r s.bearings

abbrev pub weight_of : Network → ℕ → Float
weight_of net r = get_or net.weights r nan

abbrev pub scale_of : Network → ℕ → Float
scale_of net r = get_or net.scales r nan

abbrev pub ray : Network → ℕ → Vec3
ray net r = get vector net.rays (3 * r)

-- point p as it was
abbrev pub old_point : Network → ℕ → Vec3
old_point net p = get vector net.positions (3 * p)

-- ---- the point lists

-- the places of the lists that point p has: the first, and how many
abbrev pub span_of : List ℕ → ℕ → Span
span_of offsets p = record { first = get_or offsets p 0; size = get_or offsets (p + 1) 0 - get_or offsets p 0 }

-- the row at place i of such places
abbrev pub row_at : List ℕ → Span → ℕ → ℕ
row_at listed k i = get_or listed (k.first + i) 0

-- the places of point p, and the i-th row that it lists
abbrev pub span : Network → ℕ → Span
span net p = span_of net.offsets p

abbrev pub row_of : Network → ℕ → ℕ → ℕ
row_of net p i = row_at net.listed (span net p) i
