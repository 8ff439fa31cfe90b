-- The allowed residual is no NaN where the right side's square sum is none. Assumes nothing.
use mathlib.Core.Path.{◌≡◌, refl, ap, ◌∙◌}
use mathlib.Core.Bool.{true, false, false≢true}
use Prim.Native.Nat.{ℕ, zero, suc}
use lib.IntN.{ℤ}
use lib.Dec.{eqb-suc-zero}
use lib.Ieee.{Float, nan, inf, fin, Format, binary64, add, mul, of_bits, is_nan}
use Rattle.field.specs.declared.Vec3.{Vec3}
use Rattle.field.specs.Vec.{Axis, on}
use Rattle.field.proofs.Vectors.{on-each}
use Rattle.double.specs.Sums.{unsigned}
use Rattle.double.proofs.Finite.{unsigned-round, unsigned-units, unsigned-add, unsigned-square, unsigned-no-nan}
use Rattle.sqrt.specs.Root.{nearest_root, root}
use Rattle.iterative.specs.Method.{relative, squared, allowed_of}
use Rattle.system.specs.System.{tiny}

-- ---- the root of a number that is neither NaN nor of negative sign is such a number

pub unsigned-root : (f : Format) (x : Float) → unsigned x ≡ true → unsigned (root f x) ≡ true
unfolding root nearest_root
unsigned-root f nan h = absurd (false≢true h)
unsigned-root f (inf true) h = absurd (false≢true h)
unsigned-root f (inf false) h = refl
unsigned-root f (fin true m e) h = absurd (false≢true h)
unsigned-root f (fin false zero e) h = refl
unsigned-root f (fin false (suc m) e) h = unsigned-units f _ _

-- ---- a number above zero times one that is neither NaN nor of negative sign

unsigned-scaled : (f : Format) (m : ℕ) (e : ℤ) (y : Float) → unsigned y ≡ true → unsigned (mul f (fin false (suc m) e) y) ≡ true
unfolding mul
unsigned-scaled f m e nan h = absurd (false≢true h)
unsigned-scaled f m e (inf true) h = absurd (false≢true h)
unsigned-scaled f m e (inf false) h = rw (eqb-suc-zero m)
unsigned-scaled f m e (fin true n d) h = absurd (false≢true h)
unsigned-scaled f m e (fin false n d) h = unsigned-round f _ _

-- ---- so the allowed residual is none

pub allowed-no-nan : (k : Axis) (sums : Vec3) → unsigned (on k sums) ≡ true → is_nan (on k (allowed_of sums)) ≡ false
unfolding allowed_of of_bits
allowed-no-nan k sums h =
    let r = root binary64 (on k sums) in
    let s : unsigned (add binary64 (mul binary64 relative r) tiny) ≡ true =
    unsigned-add binary64 (mul binary64 relative r) tiny (unsigned-scaled binary64 _ _ r (unsigned-root binary64 (on k sums) h)) refl in
    ap is_nan (on-each k (λ j. squared (add binary64 (mul binary64 relative (root binary64 (on j sums))) tiny)))
    ∙ unsigned-no-nan _ (unsigned-square binary64 (add binary64 (mul binary64 relative r) tiny) (unsigned-no-nan _ s))
