-- The system is formed: the terms of the sums that stand in the buffer are those of the sums themselves. Assumes nothing.
use mathlib.Core.Path.{◌≡◌, refl, sym, ap, ◌∙◌}
use mathlib.Core.Logic.{inl, inr}
use mathlib.Core.List.{List}
use mathlib.Core.Bool.{Bool, true, false, cond}
use Prim.Native.Nat.{ℕ, ◌+◌, ◌*◌, ◌<◌, ◌≤◌}
use native.Mathlib.Omega.{arith}
use borrow.Author.Tests.{ltb-true}
use lib.Dec.{ltb}
use lib.ListN.{length, get_or, drop}
use lib.Ieee.{Float, nan}
use Rattle.field.specs.Count.{field}
use Rattle.field.specs.Buffer.{Cell, part, get, flat, load, store, number, vector}
use Rattle.field.proofs.Counting.{length-field, get_or-field, upto-ext}
use Rattle.field.proofs.Buffers.{Apart, Lawful, get_or-part, at_load, part_apart, part_same, length-flat, length-store, load_store, drop-store, store-number}
use Rattle.field.proofs.Buffers.{number-lawful, vector-lawful}
use Rattle.network.specs.declared.Shape.{Shape}
use Rattle.network.specs.Network.{Network, rows, second_end, links}
use Rattle.network.specs.inner.Sound.{EndsSound, LinksSound, NetworkSound}
use Rattle.system.specs.declared.CameraTerm.{CameraTerm}
use Rattle.system.specs.System.{rows_of, Sums, add_bearing, add_direction, assemble_row, assemble_rows, terms_by, anchor_of, effective_in, pull_in, sums_from}
use Rattle.system.specs.Work.{weights_at, means_at, effective_at, matrix_at, term}
use Rattle.system.specs.inner.Formed.{RowsSound, sums_in, summed, Formed}
use Rattle.system.proofs.Anchor.{anchor-below}
use Rattle.system.proofs.Rows.{length-terms}
use Rattle.system.proofs.Terms.{term-lawful}

-- ---- a network that was not refused

pub rows-sound : (net : Network) → NetworkSound net → RowsSound (rows_of net)
rows-sound net N =
    let d = N.lengths.content.domain in
    record { links = N.links; numbers = record { rays = omega (arith, d.rays); weights = omega (arith, d.weights); scales = omega (arith, d.scales) } }

-- ---- what is read of a segment

-- a number of a segment that holds g 0, .. g (n - 1)
pub held_at : (l : List Float) (p n i : ℕ) (g : ℕ → Float) → part l p n ≡ field n g → i < n → get_or l (p + i) nan ≡ g i
held_at l p n i g e h = sym (get_or-part l p n i nan h) ∙ ap (λ (t : List Float). get_or t i nan) e ∙ get_or-field n g i nan h

-- a value
pub loaded_at : {A : Type 0} (K : Cell A) (l : List Float) (p n i : ℕ) (g : ℕ → A) → load K l p n ≡ field n g → i < n → get K l (p + K.width * i) ≡ g i
loaded_at K l p n i g e h =
    sym (at_load K l p n i (g i) h) ∙ ap (λ (t : List _). get_or t i (g i)) e ∙ get_or-field n g i (g i) h

-- ---- what a store elsewhere leaves

module _ {A : Type 0} (K : Cell A) (W : Lawful K) (l : List Float) (p : ℕ) (f : List A) where
  pub part-store : (q n : ℕ) → Apart p (K.width * length f) q n → part (store K l p f) q n ≡ part l q n
  unfolding store
  part-store q n h = part_apart l p (flat K f) q n (rw (length-flat K W f) h)

  kept : (k : ℕ) (w : List Float) → w ≡ store K l p f → p + K.width * length f ≤ k → (drop k w ≡ drop k l) × (length w ≡ length l)
  kept k w e h = (ap (drop k) e ∙ drop-store K W k l p f h, ap length e ∙ length-store K l p f)

numbers-stored : (l : List Float) (p n : ℕ) (g : ℕ → Float) → p + n ≤ length l → part (store number l p (field n g)) p n ≡ field n g
numbers-stored l p n g h =
    let k : length (field n g) ≡ n = length-field n g in
    ap (λ (t : List Float). part t p n) (store-number l p (field n g)) ∙ rw k at (part_same l p (field n g) (rw k h))

-- ---- sums that agree on the rows and points that there are

pub record Agree (s : Shape) (S S' : Sums) : Type 0 where
  pub row : (r : ℕ) → r < rows s → S.weights.row r ≡ S'.weights.row r
  pub point : (p : ℕ) → p < s.points → S.weights.point p ≡ S'.weights.point p
  pub pull : (r : ℕ) → r < rows s → S.pull r ≡ S'.pull r
  pub mean : (p : ℕ) → p < s.points → S.mean p ≡ S'.mean p

module _ (s : Shape) (ends : List ℕ) (E : EndsSound s ends) (S S' : Sums) (A : Agree s S S') where
  same_row : (r : ℕ) (ts : List CameraTerm) → r < rows s → assemble_row s ends r S ts ≡ assemble_row s ends r S' ts
  unfolding assemble_row add_bearing add_direction
  same_row r ts h = go (ltb r s.bearings) refl
    where
      go : (b : Bool) → ltb r s.bearings ≡ b → cond b (add_bearing ends r S ts) (add_direction ends r S ts) ≡ cond b (add_bearing ends r S' ts) (add_direction ends r S' ts)
      go true e =
          let p : second_end ends r < s.points = E.point r (ltb-true _ _ e) in
          rw (A.row r h, A.pull r h, A.point _ p, A.mean _ p)
      go false e = rw (A.row r h, A.pull r h)

  pub same-terms : terms_by s ends S ≡ terms_by s ends S'
  unfolding assemble_rows
  same-terms = upto-ext (λ r. assemble_row s ends r S) (λ r. assemble_row s ends r S') (rows s) _ (λ r t h. same_row r t h)

-- ---- the whole

module _ (s : Shape) (ends : List ℕ) (rays weights scales : List Float) (offsets listed : List ℕ) (l l1 l2 l3 : List Float) where
  abbrev S : Sums
  S = sums_from rays weights scales offsets listed

  pub formed : (r : ℕ) → LinksSound (links s ends offsets listed) → matrix_at s ≤ length l →
      l1 ≡ store number l (effective_at s) (field (rows s) (effective_in weights scales)) →
      l2 ≡ summed s S l1 s.points →
      l3 ≡ store term l2 0 (terms_by s ends (sums_in s (pull_in rays weights scales) l2)) →
      r ≡ anchor_of (load term l3 0 s.cameras) s.cameras →
      Formed s ends S l l3 r
  unfolding sums_from summed
  formed r L room e1 e2 e3 e4 =
      let n = s.cameras in
      let m = s.points in
      let q = rows s in
      let w = store number l1 (weights_at s) (field m S.weights.point) in
      let T = terms_by s ends (sums_in s (pull_in rays weights scales) l2) in
      let za : length (field q (effective_in weights scales)) ≡ q = length-field q _ in
      let zb : length (field m S.weights.point) ≡ m = length-field m _ in
      let zc : length (field m S.mean) ≡ m = length-field m _ in
      let zd : length T ≡ n = length-terms s ends _ in
      let k1 = kept number number-lawful l (effective_at s) (field q (effective_in weights scales)) (matrix_at s) l1 e1 (omega arith) in
      let k2 = kept number number-lawful l1 (weights_at s) (field m S.weights.point) (matrix_at s) w refl (omega arith) in
      let k3 = kept vector vector-lawful w (means_at s) (field m S.mean) (matrix_at s) l2 e2 (omega arith) in
      let k4 = kept term term-lawful l2 0 T (matrix_at s) l3 e3 (omega arith) in
      let s1 : length l1 ≡ length l = k1.1 in
      let s2 : length w ≡ length l = k2.1 ∙ s1 in
      let s3 : length l2 ≡ length l = k3.1 ∙ s2 in
      let row1 : part l1 (effective_at s) q ≡ field q (effective_in weights scales) = ap (λ (t : List Float). part t (effective_at s) q) e1 ∙ numbers-stored l (effective_at s) q _ (omega arith) in
      let row2 : part l2 (effective_at s) q ≡ field q (effective_in weights scales) =
      ap (λ (t : List Float). part t (effective_at s) q) e2 ∙ part-store vector vector-lawful w (means_at s) (field m S.mean) (effective_at s) q (inl (omega arith))
      ∙ part-store number number-lawful l1 (weights_at s) (field m S.weights.point) (effective_at s) q (inl (omega arith)) ∙ row1 in
      let point2 : part l2 (weights_at s) m ≡ field m S.weights.point =
      ap (λ (t : List Float). part t (weights_at s) m) e2 ∙ part-store vector vector-lawful w (means_at s) (field m S.mean) (weights_at s) m (inr (omega arith))
      ∙ numbers-stored l1 (weights_at s) m _ (omega arith) in
      let mean2 : load vector l2 (means_at s) m ≡ field m S.mean = ap (λ (t : List Float). load vector t (means_at s) m) e2
      ∙ load_store vector vector-lawful w (means_at s) (field m S.mean) m zc (omega arith) in
      let agree : Agree s (sums_in s (pull_in rays weights scales) l2) S = record {
        row = λ r h. held_at l2 (effective_at s) q r _ row2 h;
        point = λ p h. held_at l2 (weights_at s) m p _ point2 h;
        pull = λ r h. refl;
        mean = λ p h. loaded_at vector l2 (means_at s) m p _ mean2 h;
      } in
      let t : T ≡ terms_by s ends S = same-terms s ends L.ends (sums_in s (pull_in rays weights scales) l2) S agree in
      let terms3 : load term l3 0 n ≡ terms_by s ends S = ap (λ (k : List Float). load term k 0 n) e3 ∙ load_store term term-lawful l2 0 T n zd (omega arith) ∙ t in
      let a : r ≡ anchor_of (terms_by s ends S) n = e4 ∙ ap (λ (k : List CameraTerm). anchor_of k n) terms3 in
      record {
        segments = record {
          terms = terms3;
          points = ap (λ (k : List Float). part k (weights_at s) m) e3 ∙ part-store term term-lawful l2 0 T (weights_at s) m (inl (omega arith)) ∙ point2;
          rows = ap (λ (k : List Float). part k (effective_at s) q) e3 ∙ part-store term term-lawful l2 0 T (effective_at s) q (inl (omega arith)) ∙ row2;
        };
        anchor = a;
        below = rw a (anchor-below (terms_by s ends S) n L.ends.shape.some);
        surplus = k4.0 ∙ k3.0 ∙ k2.0 ∙ k1.0;
        size = k4.1 ∙ s3;
      }
