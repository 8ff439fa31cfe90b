-- What document 01 needs of IEEE 754's binary64 beyond the operators. Definitions only.
-- `finite` is `lib.Ieee.Scale.finite` (5.7.2 isFinite); the 64 bits for printing are `lib.Ieee.to_bits`, in which every NaN is 7ff8000000000000.
use Rattle.std.specs.Prelude.{ℕ, false, cond}
use lib.Ieee.{Float, nan, inf, fin, binary64, of_bits, lt, is_nan}
use Rattle.double.specs.declared.Decoded.{Decoded}
use Rattle.double.specs.declared.Decoded.TheVariants.{Finite, Infinite, NotANumber}

-- Rust's `f64::max`, IEEE 754's maximumNumber (2019, 9.6): the greater of two, and the other one where one is a NaN.
-- (Of two zeros it is the first, where Rust leaves open which.)
unfoldable pub greater : Float → Float → Float
greater x y = cond (is_nan x) y (cond (lt x y) y x)

-- IEEE 754's abs (5.5.1): the same number with the sign of +0. A NaN stays one.
unfoldable pub magnitude : Float → Float
magnitude nan = nan
magnitude (inf s) = inf false
magnitude (fin s m e) = fin false m e

-- what 64 bits stand for (3.4): a finite double, an infinity with its sign, or a NaN
abbrev pub sorted : Float → Decoded
sorted nan = NotANumber
sorted (inf s) = Infinite s
sorted (fin s m e) = Finite (fin s m e)

unfoldable pub decoded : ℕ → Decoded
decoded b = sorted (of_bits binary64 b)
