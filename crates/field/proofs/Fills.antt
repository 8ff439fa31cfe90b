-- Loops over the cameras: a field filled vector by vector, g 0, g 1, .., and what a turn reads. Assumes nothing.
use mathlib.Core.Path.{◌≡◌, sym, ◌∙◌}
use mathlib.Core.List.{List}
use Prim.Native.Nat.{ℕ, ◌*◌, ◌+◌, ◌<◌, ◌≤◌}
use native.Mathlib.Numerals.{add-one}
use native.Mathlib.Omega.{arith}
use lib.ListN.{length}
use lib.Ieee.{Float}
use Rattle.field.proofs.Buffers.{get-store, map_more, seen-after, seen-before, store-none, vector-lawful}
use Rattle.field.proofs.Counting.{get_or-field, length-field}
use Rattle.field.specs.Buffer.{get, load, put, store, vector}
use Rattle.field.specs.Count.{field}
use Rattle.field.specs.Vec.{at, origin}
use Rattle.field.specs.declared.Vec3.{Vec3}

module _ (g : ℕ → Vec3) (l : List Float) (p : ℕ) where
  -- where the loop begins, one vector more, where it ends
  pub fill_none : l ≡ store vector l p (field 0 g)
  fill_none = store-none vector l p g

  pub fill_more : (i : ℕ) (m w : List Float) (v : Vec3) → m ≡ store vector l p (field i g) → v ≡ g i → w ≡ put vector m (p + 3 * i) v → w ≡ store vector l p (field (i + 1) g)
  fill_more i m w v e h f = f ∙ rw add-one (map_more vector vector-lawful l p i g m v e h)

  -- what was stored
  pub filled_at : (n i : ℕ) (w : List Float) → w ≡ store vector l p (field (i + 1) g) → p + 3 * n ≤ length l → i < n → get vector w (p + 3 * i) ≡ at (field n g) i
  filled_at n i w e m h =
      let size : length (field (i + 1) g) ≡ i + 1 = length-field (i + 1) g in
      rw e (get-store vector vector-lawful l p (field (i + 1) g) i origin (omega arith) (omega arith)) ∙ get_or-field (i + 1) g i origin (omega arith) ∙ sym (get_or-field n g i origin h)

-- ---- what a turn reads, as the buffer l was before the loop: w has i vectors stored from p on

module _ (l w : List Float) (p : ℕ) (g : ℕ → Vec3) (n i : ℕ) (e : w ≡ store vector l p (field i g)) (h : i < n) where
  -- of a field before, of the field that is being stored, of a field after
  pub seen-prior : (q : ℕ) → q + 3 * n ≤ p → get vector w (q + 3 * i) ≡ at (load vector l q n) i
  seen-prior q k = seen-before vector vector vector-lawful l w p (field i g) q n i origin e k h

  pub seen-own : get vector w (p + 3 * i) ≡ at (load vector l p n) i
  seen-own = let s : length (field i g) ≡ i = length-field i g in seen-after vector vector vector-lawful l w p (field i g) p n i origin e (omega arith) h

  pub seen-later : (q : ℕ) → p + 3 * n ≤ q → get vector w (q + 3 * i) ≡ at (load vector l q n) i
  seen-later q k = let s : length (field i g) ≡ i = length-field i g in seen-after vector vector vector-lawful l w p (field i g) q n i origin e (omega arith) h
