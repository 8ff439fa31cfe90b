-- What the functions that form the system require, and what the work buffer holds when they are done.
use Rattle.std.specs.Prelude.{ℕ, ◌+◌, ◌*◌, ◌≤◌, ◌<◌, ◌≡◌, List, length, drop, get_or, set, Float}
use Rattle.std.specs.Float.{nan}
use Rattle.std.specs.Float.Ieee.{lt}
use Rattle.field.specs.declared.Vec3.{Vec3}
use Rattle.field.specs.Count.{field, count_below}
use Rattle.field.specs.Buffer.{part, get, put, load, store, number, vector}
use Rattle.network.specs.declared.Shape.{Shape}
use Rattle.network.specs.Network.{rows}
use Rattle.network.specs.inner.Sound.{LinksSound}
use Rattle.system.specs.declared.CameraTerm.{CameraTerm}
use Rattle.system.specs.System.{RowNumbers, Weights, Sums, Addition, two, term_at, terms_by, anchor_of}
use Rattle.system.specs.Work.{positions_at, weights_at, means_at, effective_at, matrix_at, term}

-- ---- what is required

-- the numbers of each row are there
pub record RowsThere (s : Shape) (rs ws ss : List Float) : Type 0 where
  pub rays : 3 * rows s ≤ length rs
  pub weights : rows s ≤ length ws
  pub scales : rows s ≤ length ss

-- and their links are sound
pub record RowsSound (R : RowNumbers) : Type 0 where
  pub links : LinksSound R.links
  pub numbers : RowsThere R.links.shape R.rays R.weights R.scales

-- ---- what stands in the buffer l

-- the weights
abbrev pub weights_in : Shape → List Float → Weights
weights_in s l = record { row = λ r. get_or l (effective_at s + r) nan; point = λ p. get_or l (weights_at s + p) nan }

-- the cameras' positions
abbrev pub positions_in : Shape → List Float → List Vec3
positions_in s l = load vector l (positions_at s) s.cameras

-- how many of n terms have a count under 2
unfoldable pub few_in : List CameraTerm → ℕ → ℕ
few_in ts n = count_below (λ c. lt (term_at ts c).count two) n

-- one pull for every row
abbrev pub always : Vec3 → ℕ → Vec3
always v r = v

-- with the mean offsets, and pulls that are given
abbrev pub sums_in : Shape → (ℕ → Vec3) → List Float → Sums
sums_in s pull l = record { weights = weights_in s l; pull = pull; mean = λ p. get vector l (means_at s + 3 * p) }

-- ---- what is made of it

-- the buffer with the weight and mean offset of point p in their places
unfoldable pub point_stored : Shape → Sums → ℕ → List Float → List Float
point_stored s S p l = put vector (set l (weights_at s + p) (S.weights.point p)) (means_at s + 3 * p) (S.mean p)

-- the buffer with the weights and mean offsets of the first k points in their places
unfoldable pub summed : Shape → Sums → List Float → ℕ → List Float
summed s S l k = store vector (store number l (weights_at s) (field k S.weights.point)) (means_at s) (field k S.mean)

-- the buffer with its terms added to, of the sums in it
unfoldable pub added : Shape → (ℕ → Vec3) → Addition → List Float → List Float
added s pull F l = store term l 0 (F (sums_in s pull l) (load term l 0 s.cameras))

-- ---- the system is formed

-- what the solvers read of the buffer: the terms t, and weights w
pub record Segments (s : Shape) (w : Weights) (t : List CameraTerm) (l : List Float) : Type 0 where
  pub terms : load term l 0 s.cameras ≡ t
  pub points : part l (weights_at s) s.points ≡ field s.points w.point
  pub rows : part l (effective_at s) (rows s) ≡ field (rows s) w.row

-- of the sums S: l is the buffer before, l' after, r the anchor
pub record Formed (s : Shape) (ends : List ℕ) (S : Sums) (l l' : List Float) (r : ℕ) : Type 0 where
  pub segments : Segments s S.weights (terms_by s ends S) l'
  pub anchor : r ≡ anchor_of (terms_by s ends S) s.cameras
  pub below : r < s.cameras
  pub surplus : drop (matrix_at s) l' ≡ drop (matrix_at s) l
  pub size : length l' ≡ length l
