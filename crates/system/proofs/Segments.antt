-- The work buffer's length is the end of its last segment; reads of its segments. Assumes nothing.
use Rattle.std.proofs.Common.{Err, Ok}
use mathlib.Core.Path.{◌≡◌, sym, ap, ◌∙◌}
use Prim.Native.Nat.{ℕ, ◌+◌}
use mathlib.Core.List.{List}
use lib.ListN.{get_or}
use lib.Ieee.{Float, nan}
use Rattle.field.specs.declared.Vec3.{Vec3}
use Rattle.field.specs.Buffer.{get, vector}
use native.Mathlib.Omega.{arith}
use Rattle.network.specs.declared.Refusal.{Refusal}
use Rattle.network.specs.Refusals.{Verdict}
use Rattle.network.specs.declared.Shape.{Shape}
use Rattle.network.specs.Refusals.{verdict, count_tests, dense_rows}
use Rattle.system.specs.Work.{work_end, work_length, length_if, length_of}

pub work-length-is : (s : Shape) (route limit : ℕ) → work_length s route limit ≡ work_end s (dense_rows s.cameras route limit)
unfolding work_length
work-length-is s route limit = omega arith

pub needed-is : (s : Shape) (route limit d t : ℕ) → d ≡ dense_rows s.cameras route limit → t ≡ work_end s d → t ≡ work_length s route limit
needed-is s route limit d t e h = h ∙ rw e (sym (work-length-is s route limit))

pub length-refused : (s : Shape) (route limit : ℕ) (x : Verdict) (r : Refusal) → x ≡ verdict (count_tests s) → x ≡ Err r → Err r ≡ length_of s route limit
unfolding length_of
length-refused s route limit x r e h = sym (ap (λ v. length_if v (work_length s route limit)) (sym e ∙ h))

pub length-of : (s : Shape) (route limit : ℕ) (x : Verdict) (t : ℕ) → x ≡ verdict (count_tests s) → x ≡ Ok tt → t ≡ work_length s route limit → Ok t ≡ length_of s route limit
unfolding length_of
length-of s route limit x t e h f = rw (sym e ∙ h) (ap Ok f)

-- ---- reads at places that are known

pub read_at : (l : List Float) (a p i : ℕ) → a ≡ p → get_or l (a + i) nan ≡ get_or l (p + i) nan
read_at l a p i e = rw e

pub read3-at : (l : List Float) (a p i : ℕ) (v : Vec3) → a ≡ p → v ≡ get vector l (a + i) → v ≡ get vector l (p + i)
read3-at l a p i v e h = h ∙ rw e
