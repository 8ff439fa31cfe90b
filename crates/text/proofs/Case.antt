-- What the definitions of the texts compute to. (Document 01, 'Network image (added) and the solve program'; document 02, R-11.)
-- Assumes nothing.
use mathlib.Core.Path.{◌≡◌, refl}
use mathlib.Core.List.{List, [], ◌∷◌, ◌++◌}
use Prim.Native.Nat.{ℕ, ◌<◌}
use native.Mathlib.Omega.{arith}
use lib.ListN.{length}
use lib.Ieee.{nan, binary64, of_bits, to_bits, size}
use Rattle.field.specs.declared.Vec3.{Vec3}
use Rattle.network.specs.declared.CameraSum.TheVariants.{Curvature}
use Rattle.network.specs.declared.Cause.TheVariants.{Room}
use Rattle.network.specs.declared.Refusal.{Refusal}
use Rattle.network.specs.declared.Refusal.TheVariants.{At, Sum}
use Rattle.field.specs.Vec.{origin, null}
use Rattle.text.specs.Text.{ascii, digit, hex, digits, decimal, bits, named, spaced, coordinates, vector_line, numbered, vector_lines}
use Rattle.text.specs.Text.{counts_line, parts_line, report_line, few_line, placed_text, camera_text, refused_text}

-- the whole case prints exactly its five lines, and `few 1` after the report's
pub whole-case : placed_text 1 1 1 0 1 0 2 0 1 (origin ∷ []) (record { x = null; y = null; z = of_bits binary64 0x4000000000000000 } ∷ []) ≡
    ascii "cameras 1 points 1 bearings 1 directions 0\nparts 1\nanchor 0 route 2 rounds 0\nfew 1\n" ++
    ascii "c 0 0000000000000000 0000000000000000 0000000000000000\np 0 0000000000000000 0000000000000000 4000000000000000\n"
unfolding ascii digit hex digits decimal bits named spaced coordinates vector_line numbered vector_lines counts_line parts_line report_line few_line placed_text to_bits of_bits size
whole-case = refl

-- a refusal, and one that has a camera
pub refusal : refused_text (At Room 16384) ≡ ascii "refused 23 place 16384\n"
unfolding ascii digit digits decimal named camera_text refused_text
refusal = refl

pub sum-refusal : refused_text (Sum Curvature 0 3) ≡ ascii "refused 11 place 0 camera 3\n"
unfolding ascii digit digits decimal named camera_text refused_text
sum-refusal = refl

-- 'A NaN prints as 7ff8000000000000.'
pub nan-bits : bits nan ≡ ascii "7ff8000000000000"
unfolding ascii digit hex bits to_bits
nan-bits = refl

-- the largest usize, and each hex digit
pub all_digits : decimal 18446744073709551615 ++ hex 16 0xfedcba9876543210 ≡ ascii "18446744073709551615fedcba9876543210"
unfolding ascii digit hex digits decimal
all_digits = refl

-- no text is empty, so an answer of 0 bytes says that there was no room
pub placed-some : (n m b e parts anchor route rounds few : ℕ) (cameras points : List Vec3) →
    0 < length (placed_text n m b e parts anchor route rounds few cameras points)
unfolding ascii named counts_line placed_text
placed-some n m b e parts anchor route rounds few cameras points = omega arith

pub refused-some : (r : Refusal) → 0 < length (refused_text r)
unfolding ascii named refused_text
refused-some r = omega arith
