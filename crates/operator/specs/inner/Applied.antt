-- What the operator's functions require of the work buffer, and what they make of it.
use Rattle.std.specs.Prelude.{◌≡◌, List, ℕ, ◌*◌, ◌+◌, ◌<◌, ◌≤◌, Float, get_or}
use Rattle.std.specs.Float.{nan}
use Rattle.field.specs.Buffer.{get, load, store, vector}
use Rattle.field.specs.Count.{upto}
use Rattle.field.specs.Vec.{minus, origin, plus, scale}
use Rattle.field.specs.declared.Vec3.{Vec3}
use Rattle.network.specs.Network.{Links, first_end}
use Rattle.network.specs.inner.Sound.{ShapeSound}
use Rattle.network.specs.declared.Shape.{Shape}
use Rattle.system.specs.Work.{matrix_at, positions_at, weights_at}
use Rattle.system.specs.inner.Formed.{weights_in}
use Rattle.operator.specs.Operator.{Change, gains, reduced_by}
use Rattle.operator.specs.declared.short.Sight.{Sight}

-- Two fields of n vectors, one before the other, among the six that follow the camera terms in a buffer of so many numbers.
pub record Ordered (s : Shape) (from into size : ℕ) : Type 0 where
  pub shape : ShapeSound s
  pub first : positions_at s ≤ from
  pub apart : from + 3 * s.cameras ≤ into
  pub last : into + 3 * s.cameras ≤ weights_at s
  pub room : weights_at s ≤ size

-- and the buffer reaches past the effective weights
pub record FieldsIn (s : Shape) (from into size : ℕ) : Type 0 where
  pub ordered : Ordered s from into size
  pub room : matrix_at s ≤ size

-- so many places of the point lists from k on, and a field that is only read
pub record PlacesIn (s : Shape) (from k count size : ℕ) : Type 0 where
  pub places : k + count ≤ s.bearings
  pub field : from + 3 * s.cameras ≤ weights_at s
  pub room : matrix_at s ≤ size

-- what is read of a bearing r on a point: its camera, its effective weight, and the camera's vector
pub record Seen (s : Shape) (ends : List ℕ) (l : List Float) (from r : ℕ) (t : Sight) : Type 0 where
  pub camera : t.camera ≡ first_end ends r
  pub below : t.camera < s.cameras
  pub weight : t.weight ≡ (weights_in s l).row r
  pub at : t.at ≡ get vector l (from + 3 * first_end ends r)

-- a sum with a sight's camera added by its weight
abbrev pub added : Sight → Vec3 → Vec3
added t v = plus v (scale t.at t.weight)

-- what stands for a sight past a list's end
abbrev pub blind : Sight
blind = record { camera = 0; weight = nan; at = record { x = nan; y = nan; z = nan } }

-- sight i of a list
abbrev pub sight_at : List Sight → ℕ → Sight
sight_at ts i = get_or ts i blind

-- those of n bearings, at the places of the point lists from k on
pub record SeenFrom (s : Shape) (ends listed : List ℕ) (l : List Float) (from k n : ℕ) (ts : List Sight) : Type 0 where
  pub each : (i : ℕ) → i < n → Seen s ends l from (get_or listed (k + i) 0) (sight_at ts i)

-- the sum of the cameras of n sights, by weight
unfoldable pub summed : List Sight → ℕ → Vec3
summed ts n = upto (λ i v. added (sight_at ts i) v) n origin

-- a field whose camera of a sight gains (camera - u) × weight, where the anchor is a
abbrev pub pushed : ℕ → Vec3 → Sight → List Vec3 → List Vec3
pushed a u t y = gains a t.camera (scale (minus t.at u) t.weight) y

-- n of them, one after another
unfoldable pub pushed_all : ℕ → Vec3 → List Sight → ℕ → List Vec3 → List Vec3
pushed_all a u ts n y = upto (λ i z. pushed a u (sight_at ts i) z) n y

-- the buffer with the field at `into` changed by the weights in it and the field at `from`
unfoldable pub applied : Shape → ℕ → ℕ → Change → List Float → List Float
applied s from into F l = store vector l into (F (weights_in s l) (load vector l from s.cameras) (load vector l into s.cameras))

-- the buffer with the field at `from` times the system stored at `into`
abbrev pub reduced_in : Links → ℕ → ℕ → ℕ → List Float → List Float
reduced_in L a from into l = store vector l into (reduced_by L (weights_in L.shape l) a (load vector l from L.shape.cameras))
