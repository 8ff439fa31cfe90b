-- Which nodes of a graph are joined (document 01: 'Two nodes are joined by a row whose weight is above 0').
-- Camera c is node c and point p is node n + p.
use Rattle.std.specs.Prelude.{ℕ, ◌+◌, ◌<◌, ◌≡◌, true, cond, ◌⊎◌, List, get_or}
use Rattle.std.specs.Float.Ieee.{lt}
use Rattle.std.specs.Float.{nan}
use Rattle.field.specs.Vec.{null}
use Rattle.network.specs.declared.Shape.{Shape}
use Rattle.network.specs.Network.{Graph, rows, first_end, second_end, is_bearing}
use Rattle.graph.specs.Walk.{Connects, LowestReached}

-- the second node of a row: the point of a bearing, the target of a direction. The first is its camera or source.
abbrev pub second_node : Shape → List ℕ → ℕ → ℕ
second_node s ends r = cond (is_bearing s r) (s.cameras + second_end ends r) (second_end ends r)

-- a and b are u and v, in either order
abbrev pub SamePair : (u v a b : ℕ) → Type 0
SamePair u v a b = ((a ≡ u) × (b ≡ v)) ⊎ ((a ≡ v) × (b ≡ u))

-- a row below k has a weight above 0, and its nodes are a and b
pub record JoinedBelow (g : Graph) (k a b : ℕ) : Type 0 where
  pub row : ℕ
  pub below : row < k
  pub positive : lt null (get_or g.weights row nan) ≡ true
  pub nodes : SamePair (first_end g.ends row) (second_node g.shape g.ends row) a b

-- a and b are joined
abbrev pub Joined : Graph → ℕ → ℕ → Type 0
Joined g = JoinedBelow g (rows g.shape)

-- a walk of joined nodes from camera 0 to every camera
abbrev pub Connected : Graph → Type 0
Connected g = Connects (Joined g) g.shape.cameras

-- l is camera c's label: the lowest camera that it reaches
abbrev pub Label : Graph → ℕ → ℕ → Type 0
Label g = LowestReached (Joined g) g.shape.cameras
