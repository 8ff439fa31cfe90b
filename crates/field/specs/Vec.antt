-- Three doubles as one value. An operation acts on each coordinate alike and rounds once there.
-- (Document 01, 'Arithmetic of the step': 'Each operation rounds once'.)
use Rattle.std.specs.Prelude.{ℕ, Bool, ◌&&◌, List, get_or, Float}
use Rattle.std.specs.Float.{binary64}
use Rattle.std.specs.Float.Ieee.{add, sub, mul, div, of_bits}
use Rattle.std.specs.Float.Ieee.Scale.{finite}
use Rattle.field.specs.declared.Vec3.{Vec3}

pub data Axis : Type 0 where
  X Y Z : Axis

-- v's number on an axis
abbrev pub on : Axis → Vec3 → Float
on X v = v.x
on Y v = v.y
on Z v = v.z

-- the vector that has g k on each axis k
abbrev pub each : (Axis → Float) → Vec3
each g = record { x = g X; y = g Y; z = g Z }

-- +0.0
abbrev pub null : Float
null = of_bits binary64 0

abbrev pub origin : Vec3
origin = each (λ k. null)

-- the vector at place i of a field, a list of vectors
abbrev pub at : List Vec3 → ℕ → Vec3
at f i = get_or f i origin

unfoldable pub is_finite : Vec3 → Bool
is_finite v = finite v.x && (finite v.y && finite v.z)

unfoldable pub plus : Vec3 → Vec3 → Vec3
plus a b = each (λ k. add binary64 (on k a) (on k b))

unfoldable pub minus : Vec3 → Vec3 → Vec3
minus a b = each (λ k. sub binary64 (on k a) (on k b))

unfoldable pub scale : Vec3 → Float → Vec3
scale a s = each (λ k. mul binary64 (on k a) s)

unfoldable pub over : Vec3 → Float → Vec3
over a s = each (λ k. div binary64 (on k a) s)

-- Three products, added first to second and then third, with no zero in front.
unfoldable pub dot : Vec3 → Vec3 → Float
dot a b = add binary64 (add binary64 (mul binary64 a.x b.x) (mul binary64 a.y b.y)) (mul binary64 a.z b.z)
