-- The assembly of the terms, row by row, in the work buffer. Assumes nothing.
use mathlib.Core.Path.{◌≡◌, sym, ap, ◌∙◌}
use mathlib.Core.List.{List, ◌++◌}
use mathlib.Core.Bool.{Bool, true, false, cond}
use Prim.Native.Nat.{ℕ, ◌+◌, ◌*◌, ◌<◌, ◌≤◌}
use native.Mathlib.Nat.{zero-add}
use native.Mathlib.Numerals.{add-one}
use native.Mathlib.Omega.{arith}
use borrow.Author.Tests.{lt-ltb, le-ltb}
use lib.ListN.{length, get_or, set, drop, replicate, length-set}
use lib.Seq.{get_or-drop}
use lib.Ieee.{Float, nan}
use Rattle.field.specs.declared.Vec3.{Vec3}
use Rattle.field.specs.Vec.{null}
use Rattle.field.specs.Count.{field}
use Rattle.field.specs.Buffer.{get, put, load, store, vector}
use Rattle.field.proofs.Counting.{length-field, upto_zero, upto-suc, upto-keeps}
use Rattle.field.proofs.Buffers.{length-load, store-load, store-store, change-store, load_store, drop-store, get-vector}
use Rattle.network.specs.declared.Shape.{Shape}
use Rattle.network.specs.Network.{rows, first_end, second_end, is_bearing}
use Rattle.system.specs.declared.CameraTerm.{CameraTerm}
use Rattle.system.specs.System.{Sums, no_term, term_at, sees, departs, arrives, add_bearing, add_direction, assemble_row, assemble_rows, terms_by}
use Rattle.system.specs.Work.{term_place, weights_at, means_at, effective_at, matrix_at, term}
use Rattle.system.specs.inner.Formed.{always, sums_in, weights_in, added}
use Rattle.system.proofs.Terms.{term-lawful, cleared-terms}

-- ---- lengths

length-cond : (b : Bool) (x y : List CameraTerm) (n : ℕ) → length x ≡ n → length y ≡ n → length (cond b x y) ≡ n
length-cond true x y n h k = h
length-cond false x y n h k = k

length-row : (s : Shape) (ends : List ℕ) (r : ℕ) (S : Sums) (x : List CameraTerm) → length (assemble_row s ends r S x) ≡ length x
unfolding assemble_row add_bearing add_direction
length-row s ends r S x = length-cond (is_bearing s r) (add_bearing ends r S x) (add_direction ends r S x) (length x) (simp length-set) (simp length-set)

pub length-rows : (s : Shape) (ends : List ℕ) (k : ℕ) (S : Sums) (x : List CameraTerm) → length (assemble_rows s ends k S x) ≡ length x
unfolding assemble_rows
length-rows s ends k S x = upto-keeps length (λ r. assemble_row s ends r S) k x (λ r a l. length-row s ends r S a)

pub length-terms : (s : Shape) (ends : List ℕ) (S : Sums) → length (terms_by s ends S) ≡ s.cameras
length-terms s ends S = length-rows s ends (rows s) S _ ∙ length-field s.cameras (λ c. no_term)

-- ---- the sums in a buffer whose numbers after the terms are the same

pub sums_kept : (s : Shape) (o : ℕ → Vec3) (l w : List Float) → drop (term_place s.cameras) w ≡ drop (term_place s.cameras) l → sums_in s o w ≡ sums_in s o l
sums_kept s o l w e =
    let n = term_place s.cameras in
    let at : (q k : ℕ) → q ≡ n + k → get_or w q nan ≡ get_or l q nan = λ q k h. rw h (sym (get_or-drop n w k nan) ∙ ap (λ (t : List Float). get_or t k nan) e ∙ get_or-drop n l k nan) in
    let row : (r : ℕ) → get_or w (effective_at s + r) nan ≡ get_or l (effective_at s + r) nan = λ r. at _ (18 * s.cameras + 4 * s.points + r) (omega arith) in
    let point : (p : ℕ) → get_or w (weights_at s + p) nan ≡ get_or l (weights_at s + p) nan = λ p. at _ (18 * s.cameras + p) (omega arith) in
    let mean : (p : ℕ) → get vector w (means_at s + 3 * p) ≡ get vector l (means_at s + 3 * p) = λ p.
    let x : get_or w (means_at s + 3 * p) nan ≡ get_or l (means_at s + 3 * p) nan = at _ (18 * s.cameras + s.points + 3 * p) (omega arith) in
    let y : get_or w (means_at s + 3 * p + 1) nan ≡ get_or l (means_at s + 3 * p + 1) nan = at _ (18 * s.cameras + s.points + 3 * p + 1) (omega arith) in
    let z : get_or w (means_at s + 3 * p + 2) nan ≡ get_or l (means_at s + 3 * p + 2) nan = at _ (18 * s.cameras + s.points + 3 * p + 2) (omega arith) in
    get-vector w (means_at s + 3 * p) ∙ (λ i. record { x = x i; y = y i; z = z i }) ∙ sym (get-vector l (means_at s + 3 * p)) in
    λ i. record { weights = record { row = λ r. row r i; point = λ p. point p i }; pull = o; mean = λ p. mean p i }

-- ---- one row

-- a term changed where it stands, of terms x that were stored
change-term : (F : CameraTerm → CameraTerm) (l m : List Float) (x : List CameraTerm) (c : ℕ) → m ≡ store term l 0 x → c < length x → term_place (length x) ≤ length l →
    put term m (term_place c) (F (get term m (term_place c))) ≡ store term l 0 (set x c (F (term_at x c)))
change-term F l m x c e h k = rw (← zero-add (term_place c)) (change-store term term-lawful F l m 0 x c no_term e h (rw zero-add k))

module _ (s : Shape) (ends : List ℕ) (v : Vec3) (l : List Float) (room : matrix_at s ≤ length l) (r : ℕ) where
  x : List CameraTerm
  x = load term l 0 s.cameras

  size : length x ≡ s.cameras
  unfolding x
  size = length-load term l 0 s.cameras

  stored : l ≡ store term l 0 x
  unfolding x
  stored = sym (store-load term term-lawful l 0 s.cameras (omega arith))

  fits : term_place (length x) ≤ length l
  fits = rw size (omega arith)

  -- t is the shape that was read
  pub bearing-added : (t : Shape) (c p : ℕ) (e w : Float) (u : Vec3) (m : List Float) →
      t ≡ s → c < s.cameras → c ≡ first_end ends r → p ≡ second_end ends r → e ≡ (weights_in t l).row r → w ≡ (weights_in t l).point p →
      u ≡ get vector l (means_at t + 3 * p) → m ≡ put term l (term_place c) (sees e w u v (get term l (term_place c))) →
      m ≡ added s (always v) (add_bearing ends r) l
  unfolding added add_bearing x
  bearing-added t c p e w u m et h ec ep ee ew eu em =
      let i : c < length x = rw size h in
      let g : m ≡ store term l 0 (set x c (sees e w u v (term_at x c))) = em ∙ change-term (sees e w u v) l l x c stored i fits in
      rw (eu, ee, ew, et, ep, ec) at g

  pub direction-added : (t : Shape) (a b : ℕ) (e : Float) (m m' : List Float) →
      t ≡ s → a < s.cameras → a ≡ first_end ends r → b < s.cameras → b ≡ second_end ends r → e ≡ (weights_in t l).row r →
      m ≡ put term l (term_place a) (departs e v (get term l (term_place a))) → m' ≡ put term m (term_place b) (arrives e v (get term m (term_place b))) →
      m' ≡ added s (always v) (add_direction ends r) l
  unfolding added add_direction x
  direction-added t a b e m m' et h ea k eb ee em em' =
      let i : a < length x = rw size h in
      let y = set x a (departs e v (term_at x a)) in
      let n : length y ≡ s.cameras = length-set x a _ ∙ size in
      let j : b < length y = rw n k in
      let f : m ≡ store term l 0 y = em ∙ change-term (departs e v) l l x a stored i fits in
      let g : m' ≡ store term l 0 (set y b (arrives e v (term_at y b))) = em' ∙ change-term (arrives e v) l m y b f j (rw n (omega arith)) in
      rw (ee, et, ea, eb) at g

  pub row-bearing : (m : List Float) → r < s.bearings → m ≡ added s (always v) (add_bearing ends r) l → m ≡ added s (always v) (assemble_row s ends r) l
  unfolding added assemble_row
  row-bearing m h e = rw (lt-ltb _ _ h) e

  pub row-direction : (m : List Float) → s.bearings ≤ r → m ≡ added s (always v) (add_direction ends r) l → m ≡ added s (always v) (assemble_row s ends r) l
  unfolding added assemble_row
  row-direction m h e = rw (le-ltb _ _ h) e

-- ---- row after row

-- a row uses its own pull alone
own-pull : (s : Shape) (ends : List ℕ) (r : ℕ) (o : ℕ → Vec3) (v : Vec3) (l : List Float) (x : List CameraTerm) → v ≡ o r →
    assemble_row s ends r (sums_in s (always v) l) x ≡ assemble_row s ends r (sums_in s o l) x
unfolding assemble_row add_bearing add_direction
own-pull s ends r o v l x e = rw e

rows-suc : (s : Shape) (ends : List ℕ) (r : ℕ) (S : Sums) (x : List CameraTerm) → assemble_row s ends r S (assemble_rows s ends r S x) ≡ assemble_rows s ends (r + 1) S x
unfolding assemble_rows
rows-suc s ends r S x = rw (add-one, upto-suc)

module _ (s : Shape) (ends : List ℕ) (o : ℕ → Vec3) (l : List Float) (room : matrix_at s ≤ length l) where
  pub rows_none : l ≡ added s o (assemble_rows s ends 0) l
  unfolding added assemble_rows
  rows_none = rw upto_zero (sym (store-load term term-lawful l 0 s.cameras (omega arith)))

  pub rows_more : (r : ℕ) (v : Vec3) (m w : List Float) → v ≡ o r → m ≡ added s o (assemble_rows s ends r) l → w ≡ added s (always v) (assemble_row s ends r) m →
      w ≡ added s o (assemble_rows s ends (r + 1)) l
  unfolding added
  rows_more r v m w h e f =
      let n = s.cameras in
      let S = sums_in s o l in
      let x = assemble_rows s ends r S (load term l 0 n) in
      let size : length x ≡ n = length-rows s ends r S _ ∙ length-load term l 0 n in
      let k : sums_in s o m ≡ S = sums_kept s o l m (ap (drop (term_place n)) e ∙ drop-store term term-lawful (term_place n) l 0 x (omega arith)) in
      let t : load term m 0 n ≡ x = ap (λ (q : List Float). load term q 0 n) e ∙ load_store term term-lawful l 0 x n size (omega arith) in
      let same : length x ≡ length (assemble_row s ends r S x) = sym (length-row s ends r S x) in
      f ∙ rw (own-pull s ends r o v m (load term m 0 n) h, k, t, e) (store-store term term-lawful l 0 x (assemble_row s ends r S x) same) ∙ ap (store term l 0) (rows-suc s ends r S (load term l 0 n))

  -- the terms were cleared before
  pub assembled : (k : ℕ) (m w : List Float) → k ≡ term_place s.cameras → m ≡ replicate k null ++ drop k l → w ≡ added s o (assemble_rows s ends (rows s)) m →
      w ≡ store term l 0 (terms_by s ends (sums_in s o l))
  unfolding added
  assembled k m w h e f =
      let n = s.cameras in
      let z = field n (λ (c : ℕ). no_term) in
      let g : m ≡ store term l 0 z = e ∙ rw h (cleared-terms l n (omega arith)) in
      let size : length z ≡ n = length-field n (λ (c : ℕ). no_term) in
      let q : sums_in s o m ≡ sums_in s o l = sums_kept s o l m (ap (drop (term_place n)) g ∙ drop-store term term-lawful (term_place n) l 0 z (omega arith)) in
      let t : load term m 0 n ≡ z = ap (λ (y : List Float). load term y 0 n) g ∙ load_store term term-lawful l 0 z n size (omega arith) in
      f ∙ rw (q, t, g) (store-store term term-lawful l 0 z (terms_by s ends (sums_in s o l)) (size ∙ sym (length-terms s ends (sums_in s o l))))
