-- A camera's part and vector, where its three numbers are there. Assumes nothing.
use Prim.Native.Nat.{ℕ, ◌+◌, ◌-◌, ◌*◌, ◌/◌, ◌≤◌, ◌<◌}
use mathlib.Core.Path.{◌≡◌, ◌∙◌}
use mathlib.Core.List.{List, []}
use mathlib.Core.Bool.{Bool, true, false}
use native.Mathlib.Nat.{add-zero, zero-add}
use native.Mathlib.Omega.{arith}
use lib.ListN.{length}
use lib.Ieee.{Float}
use borrow.Author.Tests.{le-leb, lt-leb}
use Rattle.field.specs.declared.Vec3.{Vec3}
use Rattle.field.specs.Vec.{at, origin}
use Rattle.field.specs.Buffer.{part, get, vector, vectors_in}
use Rattle.field.proofs.Buffers.{length_part, get-part, at_load}
use Rattle.recover.specs.Part.{marked, camera_part}

-- ---- the marked buffer

module _ (current trial : List Float) (mark : Bool) where
  pub marked-trial : mark ≡ true → trial ≡ marked current trial mark
  unfolding marked
  marked-trial e = rw e

  pub marked-current : mark ≡ false → current ≡ marked current trial mark
  unfolding marked
  marked-current e = rw e

pub length_marked : (c t : List Float) (m : Bool) (k : ℕ) → length c ≡ k → length t ≡ k → length (marked c t m) ≡ k
unfolding marked
length_marked c t true k e f = f
length_marked c t false k e f = e

-- ---- a camera's part

module _ (l : List Float) (i : ℕ) where
  whole_part : 3 * i + 3 ≤ length l → camera_part l i ≡ part l (3 * i) 3
  unfolding camera_part
  whole_part h = rw (le-leb _ _ h)

  pub part-whole : i < length l / 3 → part l (3 * i) (3 * i + 3 - 3 * i) ≡ camera_part l i
  unfolding camera_part
  part-whole k =
      let h : 3 * i + 3 ≤ length l = omega arith in
      let e : 3 * i + 3 - 3 * i ≡ 3 = omega arith in
      simp (le-leb _ _ h, e)

  pub part_none : length l / 3 ≤ i → [] ≡ camera_part l i
  unfolding camera_part
  part_none k =
      let h : length l < 3 * i + 3 = omega arith in
      rw (lt-leb _ _ h)

  pub part-long : (q : List Float) → q ≡ camera_part l i → 3 * i + 3 ≤ length l → 3 ≤ length q
  part-long q e h = rw (e, whole_part h, length_part l (3 * i) 3 h) (omega arith)

  pub part-vector : (q : List Float) (v : Vec3) → q ≡ camera_part l i → v ≡ get vector q 0 → 3 * i + 3 ≤ length l → v ≡ at (vectors_in l) i
  unfolding vectors_in
  part-vector q v e f h =
      f ∙ rw (e, whole_part h, get-part vector l (3 * i) 3 0 (omega arith), at_load vector l 0 (length l / 3) i origin (omega arith), add-zero, zero-add)
