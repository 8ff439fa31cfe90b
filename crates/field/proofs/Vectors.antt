-- A vector is its numbers on the axes: each operation, seen on an axis, is that of doubles. Assumes nothing.
use mathlib.Core.Path.{◌≡◌, refl}
use lib.Ieee.{Float, binary64, add, sub, mul}
use Rattle.field.specs.declared.Vec3.{Vec3}
use Rattle.field.specs.Vec.{Axis, X, Y, Z, on, each, null, origin, plus, minus, scale}

pub on-each : (k : Axis) (g : Axis → Float) → on k (each g) ≡ g k
on-each X g = refl
on-each Y g = refl
on-each Z g = refl

pub on-origin : (k : Axis) → on k origin ≡ null
on-origin k = on-each k (λ j. null)

pub on-plus : (k : Axis) (a b : Vec3) → on k (plus a b) ≡ add binary64 (on k a) (on k b)
unfolding plus
on-plus k a b = on-each k (λ j. add binary64 (on j a) (on j b))

pub on-minus : (k : Axis) (a b : Vec3) → on k (minus a b) ≡ sub binary64 (on k a) (on k b)
unfolding minus
on-minus k a b = on-each k (λ j. sub binary64 (on j a) (on j b))

pub on-scale : (k : Axis) (a : Vec3) (s : Float) → on k (scale a s) ≡ mul binary64 (on k a) s
unfolding scale
on-scale k a s = on-each k (λ j. mul binary64 (on j a) s)
