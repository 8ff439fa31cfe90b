-- What the camera of a sum says of the sum (document 02, R-2). `first-not-finite` of proofs/CameraSums proves it.
use Rattle.std.specs.Prelude.{◌≡◌, List, false, true, ℕ, ◌<◌}
use Rattle.std.specs.Float.Ieee.Scale.{finite}
use Rattle.field.specs.Vec.{Axis, on}
use Rattle.field.specs.declared.Vec3.{Vec3}
use Rattle.iterative.specs.Problem.{field_dot, first_not_finite}

pub record FirstNotFinite (n a : ℕ) (f g : List Vec3) (k : Axis) : Type 0 where
  -- n, where the sum ends finite: a running sum that has stopped being finite never becomes finite again
  pub all_finite : finite (on k (field_dot n a f g)) ≡ true → first_not_finite n a f g k ≡ n
  -- else one of the n cameras
  pub below : finite (on k (field_dot n a f g)) ≡ false → first_not_finite n a f g k < n
  -- which is not the anchor, whose products are not added
  pub not_anchor : a < n → first_not_finite n a f g k ≡ a → ⊥
