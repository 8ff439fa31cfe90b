-- How the parts of the dense solve make the whole, and what it keeps of the work buffer. Assumes nothing.
use mathlib.Core.Path.{◌≡◌, refl, sym, ap, ◌∙◌}
use mathlib.Core.Logic.{◌⊎◌, inl, inr, ⊎_elim}
use mathlib.Core.List.{List}
use Prim.Native.Nat.{ℕ, ◌+◌, ◌-◌, ◌*◌, ◌≤◌}
use native.Mathlib.Omega.{arith}
use lib.ListN.{length, take, replicate}
use lib.Seq.{take-take}
use lib.Ieee.{Float}
use borrow.Rule.Slice.PartMut.{put_mid, mid_of}
use Rattle.field.specs.declared.Vec3.{Vec3}
use Rattle.field.specs.Vec.{null}
use Rattle.field.specs.Count.{field}
use Rattle.field.specs.Buffer.{Cell, part, write, load, store, number, vector}
use Rattle.field.proofs.Counting.{length-field}
use Rattle.field.proofs.Buffers.{Lawful, length-store, part_same, load_part, load_store, load-store-apart, drop-store, store-number, number-lawful, vector-lawful}
use Rattle.network.specs.declared.Shape.{Shape}
use Rattle.network.specs.Network.{Links, Network, rows, links_of}
use Rattle.network.specs.inner.Sound.{LinksSound}
use Rattle.system.specs.declared.CameraTerm.{CameraTerm}
use Rattle.system.specs.System.{Weights, weights_of, terms, anchor}
use Rattle.system.specs.Work.{positions_at, right_at, weights_at, effective_at, matrix_at, dense_right_at, work_end, term}
use Rattle.system.specs.inner.Formed.{weights_in, Segments}
use Rattle.system.proofs.Forming.{held_at, part-store}
use Rattle.std.proofs.Common.{Result, Ok, Err}
use Rattle.cholesky.specs.declared.Breakdown.{Breakdown}
use Rattle.cholesky.specs.Cholesky.{then, ended, factor, forward, back, substitution, solution, Substituted}
use Rattle.cholesky.proofs.Factored.{ended-done, ended-stopped}
use Rattle.dense.specs.Matrix.{times, diagonal_step, couplings, matrix_by}
use Rattle.dense.specs.Dense.{dimension, right_of, camera_vector, spread, cameras_by, dense_solution_by, dense_solution}
use Rattle.dense.specs.inner.Held.{matrix_changed, cameras_of, DenseKept, MatrixFactored, RightSolved, DenseSolved}
use Rattle.dense.proofs.Changes.{AgreeOn, lent-part, lent_length, lent_back}
use Rattle.dense.proofs.Steps.{built, matrix-same, length-matrix}

-- ---- what is kept

-- k numbers from place q on lie among the positions, or among the matrix and its right side
abbrev Own : Shape → ℕ → ℕ → ℕ → Type 0
Own s d q k = ((positions_at s ≤ q) × (q + k ≤ right_at s)) ⊎ ((matrix_at s ≤ q) × (q + k ≤ work_end s d))

module _ (s : Shape) (d : ℕ) where
  kept_store : {A : Type 0} (K : Cell A) → Lawful K → (l w : List Float) (q : ℕ) (f : List A) → w ≡ store K l q f → Own s d q (K.width * length f) → DenseKept s d l w
  kept_store K W l w q f e o = record {
    terms = rw e (load-store-apart term K W l q f 0 s.cameras (inr (⊎_elim (λ b. omega (arith, b.0)) (λ b. omega (arith, b.0)) o)));
    points = rw e (part-store K W l q f (weights_at s) s.points (⊎_elim (λ b. inl (omega (arith, b.1))) (λ b. inr (omega (arith, b.0))) o));
    rows = rw e (part-store K W l q f (effective_at s) (rows s) (⊎_elim (λ b. inl (omega (arith, b.1))) (λ b. inr (omega (arith, b.0))) o));
    surplus = rw e (drop-store K W (work_end s d) l q f (⊎_elim (λ b. omega (arith, b.1)) (λ b. b.1) o));
    size = ap length e ∙ length-store K l q f;
  }

  kept-write : (l w : List Float) (xs : List Float) → w ≡ write l (matrix_at s) xs → length xs ≤ d * d + 3 * d → DenseKept s d l w
  kept-write l w xs e h = kept_store number number-lawful l w (matrix_at s) xs (e ∙ sym (store-number l (matrix_at s) xs)) (inr (omega arith, omega arith))

  kept-kept : (l m w : List Float) → DenseKept s d l m → DenseKept s d m w → DenseKept s d l w
  kept-kept l m w g h = record { terms = h.terms ∙ g.terms; points = h.points ∙ g.points; rows = h.rows ∙ g.rows; surplus = h.surplus ∙ g.surplus; size = h.size ∙ g.size }

  pub segments-kept : (w : Weights) (t : List CameraTerm) (l l' : List Float) → DenseKept s d l l' → Segments s w t l → Segments s w t l'
  segments-kept w t l l' g h = record { terms = g.terms ∙ h.terms; points = g.points ∙ h.points; rows = g.rows ∙ h.rows }

-- what was written at p, of the length n
part-written : (l m xs : List Float) (p n : ℕ) → m ≡ write l p xs → length xs ≡ n → p + n ≤ length l → part m p n ≡ xs
part-written l m xs p n e h k = rw (e, ← h) (part_same l p xs (omega arith))

-- ---- the factor, and the solution of the right side

module _ (s : Shape) (d : ℕ) (l ys : List Float) (p q : ℕ) (r : Result (Unit {0}) Breakdown) (room : work_end s d ≤ length l) (ep : p ≡ matrix_at s) (eq : q ≡ dense_right_at s d) where
  pub factored : length ys ≡ length (mid_of p (q - p) l) → ended r ys ≡ factor d (mid_of p (q - p) l) → MatrixFactored s d l (put_mid p (q - p) l ys) r
  factored ey er =
      let n = d * d in
      let h : q ≡ p + n = omega arith in
      let ly : length ys ≡ n = ey ∙ lent_length l p q n h (omega arith) in
      let m : mid_of p (q - p) l ≡ part l (matrix_at s) n = lent-part l p q n h ∙ ap (λ (t : ℕ). part l t n) ep in
      let f : put_mid p (q - p) l ys ≡ write l (matrix_at s) ys = lent_back l ys p q n h (omega arith) ly ∙ ap (λ (t : ℕ). write l t ys) ep in
      record { answer = rw (part-written l _ ys (matrix_at s) n f ly (omega arith)) (er ∙ ap (factor d) m); kept = kept-write s d l _ ys f (omega arith) }

  pub right-solved : let e = q + 3 * d in length ys ≡ length (mid_of p (e - p) l) →
      Substituted d (mid_of p (e - p) l) ys r (back d (take (d * d) (mid_of p (e - p) l)) (forward d (take (d * d) (mid_of p (e - p) l)) (load vector (mid_of p (e - p) l) (d * d) d))) →
      RightSolved s d l (put_mid p (e - p) l ys) r
  unfolding substitution
  right-solved ey g =
      let n = d * d + 3 * d in
      let e = q + 3 * d in
      let h : e ≡ p + n = omega arith in
      let ly : length ys ≡ n = ey ∙ lent_length l p e n h (omega arith) in
      let m : mid_of p (e - p) l ≡ part l (matrix_at s) n = lent-part l p e n h ∙ ap (λ (t : ℕ). part l t n) ep in
      let f : put_mid p (e - p) l ys ≡ write l (matrix_at s) ys = lent_back l ys p e n h (omega arith) ly ∙ ap (λ (t : ℕ). write l t ys) ep in
      let z : part (put_mid p (e - p) l ys) (matrix_at s) n ≡ ys = part-written l _ ys (matrix_at s) n f ly (omega arith) in
      let x : load vector ys (d * d) d ≡ load vector (put_mid p (e - p) l ys) (dense_right_at s d) d =
      ap (λ (y : List Float). load vector y (d * d) d) (sym z) ∙ load_part vector (put_mid p (e - p) l ys) (matrix_at s) n (d * d) d (omega arith) in
      let a : take (d * d) (part l (matrix_at s) n) ≡ part l (matrix_at s) (d * d) = take-take (d * d) n _ (omega arith) in
      let b : load vector (part l (matrix_at s) n) (d * d) d ≡ load vector l (dense_right_at s d) d = load_part vector l (matrix_at s) n (d * d) d (omega arith) in
      record { answer = rw x at (rw (m, a, b) at g.answer); kept = kept-write s d l _ ys f (omega arith) }

-- ---- the cameras

module _ (s : Shape) (a d : ℕ) (l w v : List Float) (r : Result (Unit {0}) Breakdown) (room : work_end s d ≤ length l)
    (ew : w ≡ store vector l (dense_right_at s d) (field d (right_of a (load term l 0 s.cameras)))) (g : RightSolved s d w v r) where
  abbrev b : List Vec3
  b = field d (right_of a (load term l 0 s.cameras))

  kept-w : DenseKept s d l w
  kept-w = let z : length b ≡ d = length-field d _ in kept_store s d vector vector-lawful l w (dense_right_at s d) b ew (inr (omega arith, omega arith))

  substituted : ended r (load vector v (dense_right_at s d) d) ≡ substitution d b (part l (matrix_at s) (d * d))
  substituted =
      let z : length b ≡ d = length-field d _ in
      let x : load vector w (dense_right_at s d) d ≡ b = rw ew (load_store vector vector-lawful l (dense_right_at s d) b d z (omega arith)) in
      let y : part w (matrix_at s) (d * d) ≡ part l (matrix_at s) (d * d) = rw ew (part-store vector vector-lawful l (dense_right_at s d) b (matrix_at s) (d * d) (inr (omega arith))) in
      rw (x, y) at g.answer

  pub placed-stops : (k : Breakdown) → r ≡ Err k → DenseSolved s d (cameras_of s a d (load term l 0 s.cameras) (part l (matrix_at s) (d * d))) l v (Err k)
  placed-stops k t =
      let q : substitution d b (part l (matrix_at s) (d * d)) ≡ Err k = ended-stopped r _ _ k substituted t in
      record { answer = rw q refl; kept = kept-kept s d l w v kept-w g.kept }

  pub placed-done : (u : List Float) → r ≡ Ok tt → u ≡ store vector v (positions_at s) (field s.cameras (camera_vector a (load vector v (dense_right_at s d) d))) →
      DenseSolved s d (cameras_of s a d (load term l 0 s.cameras) (part l (matrix_at s) (d * d))) l u (Ok tt)
  unfolding spread
  placed-done u t eu =
      let n = s.cameras in
      let x = camera_vector a (load vector v (dense_right_at s d) d) in
      let z : length (field n x) ≡ n = length-field n x in
      let lv : length v ≡ length l = g.kept.size ∙ kept-w.size in
      let q : substitution d b (part l (matrix_at s) (d * d)) ≡ Ok (load vector v (dense_right_at s d) d) = ended-done r _ _ substituted t in
      record {
        answer = rw q (ap Ok (rw eu (load_store vector vector-lawful v (positions_at s) (field n x) n z (omega arith))));
        kept = kept-kept s d l v u (kept-kept s d l w v kept-w g.kept) (kept_store s d vector vector-lawful v u (positions_at s) (field n x) eu (inl (omega arith, omega arith)));
      }

-- ---- the factor and the cameras

then-assoc : {A B C : Type 0} (x : Result A Breakdown) (f : A → Result B Breakdown) (g : B → Result C Breakdown) → then (then x f) g ≡ then x (λ y. then (f y) g)
then-assoc (Ok x) f g = refl
then-assoc (Err b) f g = refl

module _ (s : Shape) (a d : ℕ) (l w : List Float) (f : Result (Unit {0}) Breakdown) (ed : d + 1 ≡ s.cameras) (g : MatrixFactored s d l w f) where
  of-factor : cameras_by s a (load term l 0 s.cameras) (part l (matrix_at s) (d * d)) ≡ then (ended f (part w (matrix_at s) (d * d))) (cameras_of s a d (load term l 0 s.cameras))
  unfolding cameras_by solution
  of-factor =
      let q : dimension s ≡ d = omega arith in
      rw (q, ← g.answer) (then-assoc (ended f (part w (matrix_at s) (d * d))) (substitution d (field d (right_of a (load term l 0 s.cameras)))) (spread s.cameras a))

  pub matrix-stops : (b : Breakdown) → f ≡ Err b → DenseSolved s d (cameras_by s a (load term l 0 s.cameras) (part l (matrix_at s) (d * d))) l w (Err b)
  matrix-stops b t = record { answer = sym (rw t at of-factor); kept = g.kept }

  pub matrix-solved : (u : List Float) (r : Result (Unit {0}) Breakdown) → f ≡ Ok tt → DenseSolved s d (cameras_of s a d (load term w 0 s.cameras) (part w (matrix_at s) (d * d))) w u r →
      DenseSolved s d (cameras_by s a (load term l 0 s.cameras) (part l (matrix_at s) (d * d))) l u r
  matrix-solved u r t h = record { answer = (rw g.kept.terms at h.answer) ∙ sym (rw t at of-factor); kept = kept-kept s d l w u g.kept h.kept }

-- ---- the whole

-- with the shape t as it was read
pub dense-done : (L : Links) (t : Shape) (a : ℕ) (l m w v u : List Float) (r : Result (Unit {0}) Breakdown) → LinksSound L → t ≡ L.shape → work_end L.shape (dimension L.shape) ≤ length l →
    m ≡ write l (matrix_at t) (replicate ((t.cameras - 1) * (t.cameras - 1)) null) →
    w ≡ matrix_changed t (t.cameras - 1) (times (diagonal_step a (t.cameras - 1)) t.cameras) m →
    v ≡ matrix_changed L.shape (t.cameras - 1) (couplings a (t.cameras - 1) L) w →
    DenseSolved t (t.cameras - 1) (cameras_by t a (load term v 0 t.cameras) (part v (matrix_at t) ((t.cameras - 1) * (t.cameras - 1)))) v u r →
    DenseSolved L.shape (dimension L.shape) (dense_solution_by L (weights_in L.shape l) (load term l 0 L.shape.cameras) a) l u r
unfolding dense_solution_by
dense-done L t a l m w v u r K et room em ew ev h =
    let s = L.shape in
    let d = dimension s in
    let A = matrix_by L (weights_in s l) (load term l 0 s.cameras) a d in
    let z : length A ≡ d * d = length-matrix L K (weights_in s l) (load term l 0 s.cameras) a d in
    let e : v ≡ write l (matrix_at s) A = built L K a d l room m w v (rw et at em) (rw et at ew) (rw et at ev) in
    let k : DenseKept s d l v = kept-write s d l v A e (omega arith) in
    let p : part v (matrix_at s) (d * d) ≡ A = part-written l v A (matrix_at s) (d * d) e z (omega arith) in
    let g = rw et at h in
    record { answer = rw (p, k.terms) at g.answer; kept = kept-kept s d l v u k g.kept }

-- A buffer that holds the network's segments gives the network's own solution.
pub dense-held : (net : Network) (l : List Float) (a : ℕ) → LinksSound (links_of net) → Segments net.shape (weights_of net) (terms net) l → a ≡ anchor net →
    dense_solution_by (links_of net) (weights_in net.shape l) (load term l 0 net.shape.cameras) a ≡ dense_solution net
unfolding dense_solution_by dense_solution
dense-held net l a K g ea =
    let s = net.shape in
    let agree : AgreeOn s (weights_in s l) (weights_of net) = record {
      row = λ i b. held_at l (effective_at s) (rows s) i (weights_of net).row g.rows b;
      point = λ p b. held_at l (weights_at s) s.points p (weights_of net).point g.points b;
    } in
    let m = matrix-same (links_of net) K (weights_in s l) (weights_of net) (terms net) (anchor net) (dimension s) agree in
    rw (ea, g.terms, m) refl
