-- The right side and the cameras. Assumes nothing.
use mathlib.Core.Path.{◌≡◌, refl, sym, ap, ◌∙◌}
use mathlib.Core.Logic.{inl, inr}
use mathlib.Core.List.{List}
use Prim.Native.Nat.{ℕ, ◌+◌, ◌*◌, ◌<◌, ◌≤◌}
use native.Mathlib.Numerals.{add-one}
use native.Mathlib.Omega.{arith}
use lib.ListN.{length}
use lib.Ieee.{Float}
use Rattle.field.specs.declared.Vec3.{Vec3}
use Rattle.field.specs.Vec.{origin}
use Rattle.field.specs.Count.{field}
use Rattle.field.specs.Buffer.{get, put, load, store, vector}
use Rattle.field.proofs.Counting.{length-field}
use Rattle.field.proofs.Buffers.{at_load, load-store-apart, map_more, store-none, vector-lawful}
use Rattle.network.specs.declared.Shape.{Shape}
use Rattle.system.specs.declared.CameraTerm.{CameraTerm}
use Rattle.system.specs.System.{term_at}
use Rattle.system.specs.Work.{term, term_place, positions_at, dense_right_at}
use Rattle.std.proofs.Common.{Option, Some, None}
use Rattle.dense.specs.declared.rows.DenseRow.{DenseRow}
use Rattle.dense.specs.Rows.{dense_row, camera_of}
use Rattle.dense.specs.Dense.{right_of, camera_vector}
use Rattle.dense.specs.inner.Held.{put_row}
use Rattle.dense.proofs.Indices.{rows_below, rows_none, rows_all, count-anchor, count-dense, row-inside}
use Rattle.dense.proofs.Steps.{term-read}

-- ---- a camera's vector

module _ (c a : ℕ) (r : Option DenseRow) (v : Vec3) (er : r ≡ dense_row c a) where
  pub put-anchor : (l : List Float) (p : ℕ) → r ≡ None → l ≡ put_row p (dense_row c a) v l
  unfolding put_row
  put-anchor l p e = rw (← er, e)

  pub put-dense : (l w : List Float) (p k : ℕ) (q : DenseRow) → r ≡ Some q → k ≡ p + 3 * q.0 → w ≡ put vector l k v → w ≡ put_row p (dense_row c a) v l
  unfolding put_row
  put-dense l w p k q e f g = rw (← er, e, ← f) g

  pub vector-anchor : (x : List Vec3) → r ≡ None → v ≡ origin → v ≡ camera_vector a x c
  vector-anchor x e g = rw (← er, e) g

  pub vector-dense : (l : List Float) (p d n k : ℕ) (q : DenseRow) → r ≡ Some q → d + 1 ≡ n → c < n → a < n → k ≡ p + 3 * q.0 →
      v ≡ get vector l k → v ≡ camera_vector a (load vector l p d) c
  vector-dense l p d n k q e z h b f g = rw (← er, e) (g ∙ rw f (sym (at_load vector l p d q.0 origin (row-inside d n c a r q er e z h b))))

-- ---- the right side

module _ (s : Shape) (a d : ℕ) (l : List Float) where
  -- the right sides of the cameras below c
  abbrev filled : ℕ → List Float
  filled c = store vector l (dense_right_at s d) (field (rows_below a c) (right_of a (load term l 0 s.cameras)))

  pub right-none : l ≡ filled 0
  right-none = rw rows_none (store-none vector l (dense_right_at s d) _)

  pub right-more : (c : ℕ) (w u : List Float) (t : CameraTerm) → c < s.cameras → w ≡ filled c → t ≡ get term w (term_place c) →
      u ≡ put_row (dense_right_at s d) (dense_row c a) t.right w → u ≡ filled (c + 1)
  unfolding put_row
  right-more c w u m h ew em eu = let q = term-read w s.cameras c m h em in go (dense_row c a) refl (rw q eu)
    where
      go : (r : Option DenseRow) → dense_row c a ≡ r → u ≡ put_row (dense_right_at s d) r (term_at (load term w 0 s.cameras) c).right w → u ≡ filled (c + 1)
      go None e f = rw (count-anchor a c e) (f ∙ ew)
      go (Some q) e f =
          let t = count-dense a c q e in
          let z : camera_of (rows_below a c) a ≡ c = rw t.row at t.camera in
          let k : load term w 0 s.cameras ≡ load term l 0 s.cameras = rw ew (load-store-apart term vector vector-lawful l (dense_right_at s d) _ 0 s.cameras (inr (omega arith))) in
          let x : (term_at (load term w 0 s.cameras) c).right ≡ right_of a (load term l 0 s.cameras) (rows_below a c) =
          ap (λ (y : List CameraTerm). (term_at y c).right) k ∙ ap (λ (j : ℕ). (term_at (load term l 0 s.cameras) j).right) (sym z) in
          f ∙ rw (t.row, t.more) (map_more vector vector-lawful l (dense_right_at s d) (rows_below a c) (right_of a (load term l 0 s.cameras)) w _ ew x)

  pub right-ended : (c : ℕ) (w : List Float) → w ≡ filled c → c ≤ s.cameras → s.cameras ≤ c → d + 1 ≡ s.cameras → a < s.cameras →
      w ≡ store vector l (dense_right_at s d) (field d (right_of a (load term l 0 s.cameras)))
  right-ended c w e h k z b =
      let q : c ≡ d + 1 = omega arith in
      let y : rows_below a c ≡ d = rw q (rows_all a d (omega arith)) in
      rw y at e

-- ---- the cameras

module _ (s : Shape) (a d : ℕ) (l : List Float) where
  pub spread_none : l ≡ store vector l (positions_at s) (field 0 (camera_vector a (load vector l (dense_right_at s d) d)))
  spread_none = store-none vector l (positions_at s) _

  pub spread-more : (c at : ℕ) (w u : List Float) (v : Vec3) → c < s.cameras → at ≡ positions_at s →
      w ≡ store vector l (positions_at s) (field c (camera_vector a (load vector l (dense_right_at s d) d))) →
      v ≡ camera_vector a (load vector w (dense_right_at s d) d) c → u ≡ put vector w (at + 3 * c) v →
      u ≡ store vector l (positions_at s) (field (c + 1) (camera_vector a (load vector l (dense_right_at s d) d)))
  spread-more c at w u v h ea ew ev eu =
      let g = camera_vector a (load vector l (dense_right_at s d) d) in
      let e : length (field c g) ≡ c = length-field c g in
      let x : load vector w (dense_right_at s d) d ≡ load vector l (dense_right_at s d) d =
      rw ew (load-store-apart vector vector vector-lawful l (positions_at s) (field c g) (dense_right_at s d) d (inl (omega arith))) in
      rw (ea, ev) at eu ∙ rw add-one (map_more vector vector-lawful l (positions_at s) c g w _ ew (ap (λ (y : List Vec3). camera_vector a y c) x))
