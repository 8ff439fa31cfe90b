-- What the tests have shown, stage by stage, where they refuse nothing. The functions behind an entry point require it of what they read.
use Rattle.std.specs.Prelude.{ℕ, ◌+◌, ◌*◌, ◌≤◌, ◌<◌, ◌≡◌, false, List, length, get_or, Float}
use Rattle.network.specs.declared.Shape.{Shape}
use Rattle.network.specs.Network.{Graph, Links, Network, links_of, first_end, second_end, rows}
use Rattle.network.specs.Lists.{named}
use Rattle.network.specs.Refusals.{bad_weight, bad_row, bad_vector}

-- 1 and 2
pub record ShapeSound (s : Shape) : Type 0 where
  pub some : 0 < s.cameras
  pub cameras : s.cameras ≤ 4096
  pub points : s.points ≤ 65536
  pub bearings : s.bearings ≤ 262144
  pub directions : s.directions ≤ 65536

-- 3: the slices that 7 reads
pub record DomainLengths (s : Shape) (rs ws ss ps : List Float) : Type 0 where
  pub rays : length rs ≡ 3 * rows s
  pub weights : length ws ≡ rows s
  pub scales : length ss ≡ rows s
  pub positions : length ps ≡ 3 * s.points

-- 3: with the rows' ends, every slice but the point lists
pub record ContentLengths (s : Shape) (es : List ℕ) (rs ws ss ps : List Float) : Type 0 where
  pub ends : length es ≡ 2 * rows s
  pub domain : DomainLengths s rs ws ss ps

-- 3: the slices that 6 reads
pub record ListLengths (L : Links) : Type 0 where
  pub ends : length L.ends ≡ 2 * rows L.shape
  pub offsets : length L.offsets ≡ L.shape.points + 1
  pub listed : length L.listed ≡ L.shape.bearings

-- 3: every slice of the network
pub record NetworkLengths (net : Network) : Type 0 where
  pub content : ContentLengths net.shape net.ends net.rays net.weights net.scales net.positions
  pub offsets : length net.offsets ≡ net.shape.points + 1
  pub listed : length net.listed ≡ net.shape.bearings

-- 4 and 5: the rows' ends are there and in range
pub record EndsSound (s : Shape) (ends : List ℕ) : Type 0 where
  pub shape : ShapeSound s
  pub size : length ends ≡ 2 * rows s
  pub camera : (r : ℕ) → r < rows s → first_end ends r < s.cameras
  pub point : (r : ℕ) → r < s.bearings → second_end ends r < s.points
  pub target : (r : ℕ) → s.bearings ≤ r → r < rows s → second_end ends r < s.cameras
  pub apart : (r : ℕ) → s.bearings ≤ r → r < rows s → first_end ends r ≡ second_end ends r → ⊥

-- 6: m + 1 offsets from 0 to b, never falling
pub record OffsetsSound (m b : ℕ) (offsets : List ℕ) : Type 0 where
  pub size : length offsets ≡ m + 1
  pub start : get_or offsets 0 0 ≡ 0
  pub end : get_or offsets m 0 ≡ b
  pub rises : (p : ℕ) → p < m → get_or offsets p 0 ≤ get_or offsets (p + 1) 0
  pub within : (p : ℕ) → p ≤ m → get_or offsets p 0 ≤ b

-- 6: b places that name bearings
pub record ListedSound (b : ℕ) (listed : List ℕ) : Type 0 where
  pub size : length listed ≡ b
  pub bearing : (k : ℕ) → k < b → get_or listed k 0 < b

-- 4 to 6: each bearing is named once, under its own point
pub record LinksSound (L : Links) : Type 0 where
  pub ends : EndsSound L.shape L.ends
  pub offsets : OffsetsSound L.shape.points L.shape.bearings L.offsets
  pub listed : ListedSound L.shape.bearings L.listed
  pub own : (p k : ℕ) → p < L.shape.points → get_or L.offsets p 0 ≤ k → k < get_or L.offsets (p + 1) 0 →
      second_end L.ends (get_or L.listed k 0) ≡ p
  pub once : (r : ℕ) → r < L.shape.bearings → named L.listed r L.shape.bearings ≡ 1

-- a graph call's tests
pub record GraphSound (g : Graph) : Type 0 where
  pub ends : EndsSound g.shape g.ends
  pub weights : length g.weights ≡ rows g.shape
  pub weight : (r : ℕ) → r < rows g.shape → bad_weight g.weights r ≡ false

-- 1 to 7 of the whole network
pub record NetworkSound (net : Network) : Type 0 where
  pub links : LinksSound (links_of net)
  pub lengths : NetworkLengths net
  pub row : (r : ℕ) → r < rows net.shape → bad_row net.weights net.scales net.rays r ≡ false
  pub position : (p : ℕ) → p < net.shape.points → bad_vector net.positions p ≡ false
