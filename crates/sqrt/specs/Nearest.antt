-- What it means to be the value of a format that is nearest to √x, for an x above zero: what IEEE 754 (2019, 4.3.1 and 5.4.1) asks of squareRoot,
-- said without real numbers. Definitions only.
-- proofs/Meaning shows that `root` is such a value (`root-is-nearest`) and that nothing else is (`root-unique`).
use Rattle.std.specs.Prelude.{◌+◌, ◌*◌, ◌<◌, T, Float}
use Rattle.std.specs.Float.{Format}
use Rattle.std.specs.Float.Ieee.{lt, fits}
use Rattle.std.specs.Float.Ieee.Positive.{num, den}
use Rattle.double.specs.Sums.{counted}

-- r is nearer to √x than y is: (r + y) / 2 is below √x where y is below r, and above √x where y is above r.
-- There are no real numbers here, so both sides are squared, and the denominators are multiplied out.
pub record NearerThan (y x r : Float) : Type 0 where
  pub below : T (lt y r) → (num r * den y + num y * den r) * (num r * den y + num y * den r) * den x < 4 * num x * (den r * den y * (den r * den y))
  pub above : T (lt r y) → 4 * num x * (den r * den y * (den r * den y)) < (num r * den y + num y * den r) * (num r * den y + num y * den r) * den x

pub record NearestToRoot (f : Format) (x r : Float) : Type 0 where
  pub held : T (fits f r)
  pub sign : T (counted r)
  pub nearer-than : (y : Float) → T (fits f y) → T (counted y) → NearerThan y x r
