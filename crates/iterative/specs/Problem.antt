-- A linear system for n cameras, one of which, the anchor, is held at zero: what the method is given.
-- The unknowns, the right side and each vector of the method are fields: a Vec3 for each camera.
use Rattle.std.specs.Prelude.{◌≡◌, List, Bool, cond, not, true, max, min, ℕ, ◌+◌, ◌*◌, ◌-◌, ◌<◌, eqb, length, unwrap_or, Float}
use Rattle.std.specs.Float.{binary64}
use Rattle.std.specs.Float.Ieee.{mul}
use Rattle.std.specs.Float.Ieee.Scale.{finite}
use Rattle.field.specs.Count.{lowest, upto}
use Rattle.field.specs.Vec.{Axis, at, each, on, origin, plus}
use Rattle.field.specs.declared.Vec3.{Vec3}

pub record Problem : Type 0 where
  pub cameras : ℕ
  pub anchor : ℕ
  -- each camera's diagonal with the ridge, by which the residual is preconditioned
  pub diagonal : ℕ → Float
  -- the right side, zero at the anchor
  pub right : List Vec3
  -- the system applied to a field
  pub operator : List Vec3 → List Vec3

-- ---- sums over the cameras but the anchor

-- the products on each axis
unfoldable pub times : Vec3 → Vec3 → Vec3
times a b = each (λ k. mul binary64 (on k a) (on k b))

unfoldable pub dot_step : ℕ → List Vec3 → List Vec3 → ℕ → Vec3 → Vec3
dot_step a f g i v = cond (eqb i a) v (plus v (times (at f i) (at g i)))

-- for each component the sum of the products over all n cameras but the anchor a, from +0.0, in camera order
unfoldable pub field_dot : ℕ → ℕ → List Vec3 → List Vec3 → Vec3
field_dot n a f g = upto (dot_step a f g) n origin

-- the running sum of component k is not finite once camera i's products are added
unfoldable pub not_finite_after : ℕ → List Vec3 → List Vec3 → Axis → ℕ → Bool
not_finite_after a f g k i = not (finite (on k (field_dot (i + 1) a f g)))

-- 'the first camera at which the running sum stopped being finite, or n if it stayed finite' (document 02, R-2), of component k
unfoldable pub first_not_finite : ℕ → ℕ → List Vec3 → List Vec3 → Axis → ℕ
first_not_finite n a f g k = unwrap_or (lowest (not_finite_after a f g k) n) n

-- the most rounds: 8(n - 1) clamped to 64 .. 4000
unfoldable pub most_rounds : ℕ → ℕ
most_rounds n = min (max (8 * (n - 1)) 64) 4000

-- ---- what the acceptance theorem asks of a system

-- an entry of the operator's output, but for the anchor's, is finite only where that entry of its input is
abbrev pub Faithful : Problem → Type 0
Faithful P = (k : Axis) (x : List Vec3) (i : ℕ) → i < P.cameras → (i ≡ P.anchor → ⊥) → finite (on k (at (P.operator x) i)) ≡ true →
    finite (on k (at x i)) ≡ true

pub record Regular (P : Problem) : Type 0 where
  -- the anchor is one of the cameras
  pub held : P.anchor < P.cameras
  pub right : length P.right ≡ P.cameras
  pub faithful : Faithful P
