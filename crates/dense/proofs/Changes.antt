-- Changes of the matrix in its segment of the work buffer, one after another. Assumes nothing.
use mathlib.Core.Path.{◌≡◌, sym, ap, ◌∙◌}
use mathlib.Core.Logic.{inl, inr}
use mathlib.Core.List.{List}
use Prim.Native.Nat.{ℕ, ◌+◌, ◌-◌, ◌*◌, ◌≤◌, ◌<◌}
use native.Mathlib.Numerals.{add-one}
use native.Mathlib.Omega.{arith}
use lib.ListN.{length, drop, replicate, length-replicate}
use lib.Seq.{drop-drop}
use lib.Ieee.{Float, nan}
use borrow.Rule.Slice.PartMut.{put_mid, mid_of}
use Rattle.field.specs.Vec.{null}
use Rattle.field.specs.Buffer.{part, write, load, number}
use Rattle.field.proofs.Counting.{upto_zero, upto-suc, upto-ext, upto-invariant}
use Rattle.field.proofs.Buffers.{length_part, write-part, part_same, write-write, write-split, get_or-apart, load-store-apart, store-number, number-lawful}
use Rattle.network.specs.declared.Shape.{Shape}
use Rattle.network.specs.Network.{rows}
use Rattle.system.specs.declared.CameraTerm.{CameraTerm}
use Rattle.system.specs.System.{Weights}
use Rattle.system.specs.Work.{weights_at, effective_at, matrix_at, dense_right_at, work_end, term}
use Rattle.system.specs.inner.Formed.{weights_in}
use Rattle.dense.specs.Matrix.{MatrixChange, times}
use Rattle.dense.specs.inner.Held.{matrix_changed}

-- ---- a segment that is lent

-- as `&mut l[p..e]`
pub lent-part : (l : List Float) (p e n : ℕ) → e ≡ p + n → mid_of p (e - p) l ≡ part l p n
lent-part l p e n h = let q : e - p ≡ n = omega arith in rw q

pub lent_length : (l : List Float) (p e n : ℕ) → e ≡ p + n → p + n ≤ length l → length (mid_of p (e - p) l) ≡ n
lent_length l p e n h k = rw (lent-part l p e n h) (length_part l p n k)

-- and that came back as ys
pub lent_back : (l ys : List Float) (p e n : ℕ) → e ≡ p + n → p + n ≤ length l → length ys ≡ n → put_mid p (e - p) l ys ≡ write l p ys
lent_back l ys p e n h k s =
    let q : e - p ≡ n = omega arith in
    let r : drop n (drop p l) ≡ drop (p + length ys) l = rw s (drop-drop n p l) in
    rw (q, r) (sym (write-split l p ys (omega arith)))

-- ---- weights that agree on the rows and points that there are

pub record AgreeOn (s : Shape) (w w' : Weights) : Type 0 where
  pub row : (r : ℕ) → r < rows s → w.row r ≡ w'.row r
  pub point : (p : ℕ) → p < s.points → w.point p ≡ w'.point p

-- F keeps the size of a matrix of d rows
abbrev pub SizeKept : ℕ → MatrixChange → Type 0
SizeKept d F = (w : Weights) (ts : List CameraTerm) (A : List Float) → length A ≡ d * d → length (F w ts A) ≡ d * d

-- and reads no other weights
pub record LocalChange (s : Shape) (d : ℕ) (F : MatrixChange) : Type 0 where
  pub sized : SizeKept d F
  pub same : (w w' : Weights) (ts : List CameraTerm) (A : List Float) → AgreeOn s w w' → F w ts A ≡ F w' ts A

pub sized-times : (d : ℕ) (f : ℕ → MatrixChange) (k : ℕ) → ((i : ℕ) → SizeKept d (f i)) → SizeKept d (times f k)
unfolding times
sized-times d f k h w ts A e = upto-invariant (λ i t. length t ≡ d * d) (λ i. f i w ts) k A (λ i t l q. h i w ts t q) e

pub local-times : (s : Shape) (d : ℕ) (f : ℕ → MatrixChange) (k : ℕ) → ((i : ℕ) → i < k → LocalChange s d (f i)) → LocalChange s d (times f k)
unfolding times
local-times s d f k h = record {
  sized = λ w ts A e. upto-invariant (λ i t. length t ≡ d * d) (λ i. f i w ts) k A (λ i t l q. (h i l).sized w ts t q) e;
  same = λ w w' ts A g. upto-ext (λ i. f i w ts) (λ i. f i w' ts) k A (λ i t l. (h i l).same w w' ts t g);
}

-- ---- in the work buffer

module _ (s : Shape) (d : ℕ) (l : List Float) (room : work_end s d ≤ length l) where
  module _ (A m : List Float) (e : m ≡ write l (matrix_at s) A) where
    agree_after : AgreeOn s (weights_in s m) (weights_in s l)
    agree_after = record {
      row = λ r h. rw e (get_or-apart l (matrix_at s) A (effective_at s + r) nan (inl (omega arith)));
      point = λ p h. rw e (get_or-apart l (matrix_at s) A (weights_at s + p) nan (inl (omega arith)));
    }

    terms-after : load term m 0 s.cameras ≡ load term l 0 s.cameras
    terms-after = rw (e ∙ sym (store-number l (matrix_at s) A)) (load-store-apart term number number-lawful l (matrix_at s) A 0 s.cameras (inr (omega arith)))

    -- a change of a matrix that was written
    pub changed-write : (G : MatrixChange) → LocalChange s d G → length A ≡ d * d → matrix_changed s d G m ≡ write l (matrix_at s) (G (weights_in s l) (load term l 0 s.cameras) A)
    unfolding matrix_changed
    changed-write G h z =
        let p = matrix_at s in
        let ts = load term l 0 s.cameras in
        let q : part m p (d * d) ≡ A = rw (e, ← z) (part_same l p A (omega arith)) in
        let g : G (weights_in s m) ts A ≡ G (weights_in s l) ts A = h.same _ _ ts A agree_after in
        let f : length (G (weights_in s l) ts A) ≡ d * d = h.sized _ ts A z in
        rw (terms-after, q, g) (ap (λ (x : List Float). write x p (G (weights_in s l) ts A)) e ∙ write-write l p A (G (weights_in s l) ts A) (omega arith))

  -- one change after another
  pub changed-both : (F G H : MatrixChange) (m w : List Float) → SizeKept d F → LocalChange s d G → m ≡ matrix_changed s d F l → w ≡ matrix_changed s d G m →
      ((v : Weights) (ts : List CameraTerm) (A : List Float) → H v ts A ≡ G v ts (F v ts A)) → w ≡ matrix_changed s d H l
  unfolding matrix_changed
  changed-both F G H m w hF hG e f k =
      let A = part l (matrix_at s) (d * d) in
      let z : length (F (weights_in s l) (load term l 0 s.cameras) A) ≡ d * d = hF _ _ A (length_part l (matrix_at s) (d * d) (omega arith)) in
      f ∙ changed-write _ m e G hG z ∙ ap (write l (matrix_at s)) (sym (k _ _ A))

  -- a loop of changes: where it begins, and one more
  pub changes-none : (f : ℕ → MatrixChange) → l ≡ matrix_changed s d (times f 0) l
  unfolding matrix_changed times
  changes-none f = rw upto_zero (sym (write-part l (matrix_at s) (d * d)))

  pub changes-more : (f : ℕ → MatrixChange) (k : ℕ) (m w : List Float) → ((i : ℕ) → SizeKept d (f i)) → LocalChange s d (f k) →
      m ≡ matrix_changed s d (times f k) l → w ≡ matrix_changed s d (f k) m → w ≡ matrix_changed s d (times f (k + 1)) l
  unfolding times
  changes-more f k m w z h e g = changed-both (times f k) (f k) (times f (k + 1)) m w (sized-times d f k z) h e g (λ v ts A. rw (add-one, upto-suc))

-- the matrix cleared
pub cleared : (s : Shape) (d p e : ℕ) (l ys : List Float) → work_end s d ≤ length l → p ≡ matrix_at s → e ≡ dense_right_at s d →
    ys ≡ replicate (length (mid_of p (e - p) l)) null → put_mid p (e - p) l ys ≡ write l (matrix_at s) (replicate (d * d) null)
cleared s d p e l ys room ep ee g =
    let n = d * d in
    let h : e ≡ p + n = omega arith in
    let q : length (mid_of p (e - p) l) ≡ n = lent_length l p e n h (omega arith) in
    let r : ys ≡ replicate n null = rw (← q) g in
    lent_back l ys p e n h (omega arith) (ap length r ∙ length-replicate n null) ∙ rw (r, ep)
