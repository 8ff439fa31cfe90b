-- A running sum, and the numbers that are not below zero. Definitions only.
use Rattle.std.specs.Prelude.{ℕ, zero, suc, Bool, false, not, ◌||◌, eqb, Float}
use Rattle.std.specs.Float.{nan, inf, fin, Format}
use Rattle.std.specs.Float.Ieee.{add}

-- z, then g 0, g 1, .. added one after another, each addition rounded
unfoldable pub total : Format → (ℕ → Float) → Float → ℕ → Float
total f g z zero = z
total f g z (suc n) = add f (total f g z n) (g n)

-- finite, with the sign of +0
abbrev pub counted : Float → Bool
counted nan = false
counted (inf s) = false
counted (fin s m e) = not s

-- neither a NaN nor of negative sign: +0 and what is above it
abbrev pub unsigned : Float → Bool
unsigned nan = false
unsigned (inf s) = not s
unsigned (fin s m e) = not s

-- not below zero, and no NaN: -0, +0 and what is above them (document 01's weights are such numbers, and finite)
abbrev pub nonneg : Float → Bool
nonneg nan = false
nonneg (inf s) = not s
nonneg (fin s m e) = not s || eqb m 0
