-- IEEE 754's squareRoot (2019 edition): the root rounded once (5.4.1), to nearest and at a tie to the even value (4.3.1). Definitions only.
-- The sign: √-0 is -0, and every other root that is a number is positive (6.3).
-- An operand below zero, -∞ among them, is invalid and gives a NaN (7.2).
use Prim.Native.Nat.{ℕ, zero, suc, ◌+◌, ◌-◌, ◌*◌, ◌/◌, ◌^◌, compare}
use Rattle.std.specs.Prelude.{true, false, cond, leb, Float}
use Rattle.std.specs.Float.{nan, inf, fin, Format}
use Rattle.std.specs.Float.Ieee.{prec, low, up, down, size, nearest, units}

-- r, or r + 1 where the square of that is at most n
abbrev pub larger : ℕ → ℕ → ℕ
larger n r = cond (leb (suc r * suc r) n) (suc r) r

-- The whole part of √n for an n below 4 ^ d, a binary digit at a time: that of √(n / 4) doubled, or one more.
unfoldable pub digits : ℕ → ℕ → ℕ
digits zero n = zero
digits (suc d) n = larger n (2 * digits d (n / 4))

-- the whole part of √n
unfoldable pub floor_root : ℕ → ℕ
unfolding digits size
floor_root n = digits (size n) n

-- The value of the format f that is nearest to √(num / den), for a den above 0.
-- In units of f's smallest value the root is √(n / den). Of its whole part the format keeps the `prec` leading digits and drops k.
-- So the result is a multiple of 2 ^ k units: q, the whole part of √(n / u), or the next one, by how √(n / u) compares with q + 1/2.
unfoldable pub nearest_root : Format → ℕ → ℕ → Float
unfolding floor_root size units
nearest_root f num den =
    let n = num * 2 ^ (2 * low f) in
    let k = size (floor_root (n / den)) - prec f in
    let u = den * 4 ^ k in
    let q = floor_root (n / u) in
    units f false (nearest q (compare (4 * n) ((2 * q + 1) * (2 * q + 1) * u))) k

-- The root of a zero is that zero, with its sign, and of +∞ it is +∞. The root of anything else that is negative is `nan`.
unfoldable pub root : Format → Float → Float
unfolding nearest_root
root f nan = nan
root f (inf s) = cond s nan (inf false)
root f (fin s zero e) = fin s zero e
root f (fin true (suc m) e) = nan
root f (fin false (suc m) e) = nearest_root f (suc m * up e) (down e)
