-- Four columns' products taken off what stands to the right of them: cell by cell, A the matrix before. Assumes nothing.
use mathlib.Core.Path.{◌≡◌, refl, sym, ap, ◌∙◌}
use mathlib.Core.Logic.{⊎_elim}
use mathlib.Core.List.{List}
use Prim.Native.Nat.{ℕ, ◌+◌, ◌-◌, ◌*◌, ◌/◌, ◌%◌, ◌≤◌, ◌<◌, min}
use native.Mathlib.Omega.{arith}
use lib.ListN.{length, set, length-set}
use lib.Ieee.{Float}
use Rattle.cholesky.specs.declared.Four.{Four}
use Rattle.cholesky.specs.Cholesky.{entry}
use Rattle.cholesky.specs.inner.Stages.{taken, packed, packed_with, four, Packed, new_cell, with_cell, RowUpdated, PairUpdated, RowsUpdated, Updated}
use Rattle.cholesky.proofs.Places.{same_or_not, below_or_not, through}
use Rattle.cholesky.proofs.Fours.{four_same, packed-own, packed-rest}
use Rattle.cholesky.proofs.Lower.{entry-same, entry_other}

module _ (d : ℕ) where
  -- ---- the columns, packed

  pub packed_more : (A : List Float) (j from t n : ℕ) (p w : List Float) (x : Four) →
      Packed d A j from t p →
      x ≡ four d A (from + t) j →
      w ≡ packed_with p t x →
      length p ≡ 1024 →
      t < n →
      n ≤ 256 →
      Packed d A j from (t + 1) w
  packed_more A j from t n p w x h e f hp hn hm = record {
    rows = λ u hu.
        rw f (
        through (λ (u : ℕ). packed (packed_with p t x) u ≡ four d A (from + u) j) t
        (λ u b. packed-rest p t x hp (omega arith) u b ∙ h.rows u b)
        (packed-own p t x hp (omega arith) ∙ e)
        u (omega arith));
  }

  -- ---- one row

  module _ (A : List Float) (p : List Float) (i from t : ℕ) (x : Four) where
    pub new-cell : (u v : Float) → u ≡ entry d A i (from + t) → v ≡ taken u x (packed p t) → v ≡ new_cell d A p i from t x
    new-cell u v e f = rw e at f

    pub cell-done : (u : Float) (B : List Float) → u ≡ new_cell d A p i from t x → B ≡ set A (i * d + (from + t)) u → B ≡ with_cell d A p i from t x
    unfolding with_cell
    cell-done u B e f = rw e at f

    cell-size : length (with_cell d A p i from t x) ≡ length A
    unfolding with_cell
    cell-size = length-set A (i * d + (from + t)) _

    cell-own : length A ≡ d * d → i < d → from + t < d → entry d (with_cell d A p i from t x) i (from + t) ≡ new_cell d A p i from t x
    unfolding with_cell
    cell-own hl hi ht = entry-same d A i (from + t) _ hl hi ht

    cell-rest : (m c : ℕ) → ((m ≡ i) × (c ≡ from + t) → ⊥) → from + t < d → c < d → entry d (with_cell d A p i from t x) m c ≡ entry d A m c
    unfolding with_cell
    cell-rest m c f ht hc = entry_other d A i (from + t) m c _ f ht hc

  -- both cells are read before one is written
  pub cells-done : (A B C p : List Float) (i from t : ℕ) (x y : Four) (u v : Float) →
      u ≡ new_cell d A p i from t x →
      v ≡ new_cell d A p (i + 1) from t y →
      B ≡ set A (i * d + (from + t)) u →
      C ≡ set B ((i + 1) * d + (from + t)) v →
      from + t < d →
      C ≡ with_cell d (with_cell d A p i from t x) p (i + 1) from t y
  cells-done A B C p i from t x y u v e f g h ht =
      let b : B ≡ with_cell d A p i from t x = cell-done A p i from t x u B e g in
      let o : entry d B (i + 1) (from + t) ≡ entry d A (i + 1) (from + t) = rw b (cell-rest A p i from t x (i + 1) (from + t) (λ q. omega arith) ht ht) in
      rw b at (cell-done B p (i + 1) from t y v C (rw o f) h)

  pub row_more : (A B C : List Float) (i from t : ℕ) (x : Four) (p : List Float) →
      RowUpdated d A B i from t x p →
      C ≡ with_cell d B p i from t x →
      length A ≡ d * d →
      i < d →
      from + t < d →
      RowUpdated d A C i from (t + 1) x p
  row_more A B C i from t x p h e hl hi ht =
      rw e (record {
        size = cell-size B p i from t x ∙ h.size;
        cells = λ u hu.
            through (λ (u : ℕ). entry d (with_cell d B p i from t x) i (from + u) ≡ new_cell d A p i from u x) t
            (λ u b. cell-rest B p i from t x i (from + u) (λ q. omega arith) ht (omega arith) ∙ h.cells u b)
            (cell-own B p i from t x (h.size ∙ hl) hi ht ∙ ap (λ (v : Float). taken v x (packed p t)) (h.rest i (from + t) (λ q. omega arith) ht))
            u (omega arith);
        rest = λ m c g hc.
            cell-rest B p i from t x m c (λ q. g (q.0, omega arith, omega arith)) ht hc
            ∙ h.rest m c (λ q. g (q.0, q.1, omega arith)) hc;
      })

  pub row_next : (A B C : List Float) (i from t n : ℕ) (x : Four) (p : List Float) →
      RowUpdated d A B i from t x p →
      C ≡ with_cell d B p i from t x →
      length A ≡ d * d →
      i < d →
      t < n →
      from + n ≤ d →
      RowUpdated d A C i from (t + 1) x p
  row_next A B C i from t n x p h e hl hi ht hn = row_more A B C i from t x p h e hl hi (omega arith)

  -- a cell of the row above, updated before and after
  row-above : (A B : List Float) (i from n t : ℕ) (x y : Four) (p : List Float) →
      RowUpdated d A B (i + 1) from n y p →
      length A ≡ d * d →
      i + 1 < d →
      from + t < d →
      from + n ≤ d →
      RowUpdated d (with_cell d A p i from t x) (with_cell d B p i from t x) (i + 1) from n y p
  row-above A B i from n t x y p h hl hi ht hn = record {
    size = cell-size B p i from t x ∙ h.size ∙ sym (cell-size A p i from t x);
    cells = λ u hu.
        cell-rest B p i from t x (i + 1) (from + u) (λ q. omega arith) ht (omega arith)
        ∙ h.cells u hu
        ∙ ap (λ (v : Float). taken v y (packed p u)) (sym (cell-rest A p i from t x (i + 1) (from + u) (λ q. omega arith) ht (omega arith)));
    rest = λ m c g hc.
        ⊎_elim
        (λ (q : (m ≡ i) × (c ≡ from + t)).
        rw (q.0, q.1) (
        cell-own B p i from t x (h.size ∙ hl) (omega arith) ht
        ∙ ap (λ (v : Float). taken v x (packed p t)) (h.rest i (from + t) (λ z. omega arith) ht)
        ∙ sym (cell-own A p i from t x hl (omega arith) ht)))
        (λ f. cell-rest B p i from t x m c f ht hc ∙ h.rest m c g hc ∙ sym (cell-rest A p i from t x m c f ht hc))
        (same_or_not m c i (from + t));
  }

  -- ---- two rows

  pair-more : (A B C : List Float) (i from t : ℕ) (x y : Four) (p : List Float) →
      PairUpdated d A B i from t t x y p →
      C ≡ with_cell d (with_cell d B p i from t x) p (i + 1) from t y →
      length A ≡ d * d →
      i + 1 < d →
      from + t < d →
      PairUpdated d A C i from (t + 1) (t + 1) x y p
  pair-more A B C i from t x y p h e hl hi ht =
      let U = h.upper in
      let W = with_cell d U p i from t x in
      let hu : length U ≡ d * d = h.first.size ∙ hl in
      record {
        upper = W;
        first = row_more A U W i from t x p h.first refl hl (omega arith) ht;
        second = row_more W (with_cell d B p i from t x) C (i + 1) from t y p (row-above U B i from t t x y p h.second hu hi ht (omega arith)) e (cell-size U p i from t x ∙ hu) hi ht;
      }

  pub pair-next : (A B C : List Float) (i from t h : ℕ) (x y : Four) (p : List Float) →
      PairUpdated d A B i from t t x y p →
      C ≡ with_cell d (with_cell d B p i from t x) p (i + 1) from t y →
      length A ≡ d * d →
      i + 1 < d →
      t < 2 * h →
      from + 2 * h ≤ d →
      PairUpdated d A C i from (t + 1) (t + 1) x y p
  pair-next A B C i from t h x y p u e hl hi ht hn = pair-more A B C i from t x y p u e hl hi (omega arith)

  -- all entries in common, an even number of them and perhaps one more
  pub common-even : (A B : List Float) (i from w : ℕ) (x y : Four) (p : List Float) →
      PairUpdated d A B i from (2 * (w / 2)) (2 * (w / 2)) x y p →
      (w % 2 ≡ 1 → ⊥) →
      PairUpdated d A B i from w w x y p
  common-even A B i from w x y p h e = let f : 2 * (w / 2) ≡ w = omega arith in rw f at h

  pub common-odd : (A B C : List Float) (i from w : ℕ) (x y : Four) (p : List Float) →
      PairUpdated d A B i from (2 * (w / 2)) (2 * (w / 2)) x y p →
      C ≡ with_cell d (with_cell d B p i from (w - 1) x) p (i + 1) from (w - 1) y →
      w % 2 ≡ 1 →
      length A ≡ d * d →
      i + 1 < d →
      from + w ≤ d →
      PairUpdated d A C i from w w x y p
  common-odd A B C i from w x y p h e o hl hi hw =
      let f : 2 * (w / 2) ≡ w - 1 = omega arith in
      let g : w - 1 + 1 ≡ w = omega arith in
      rw g at (pair-more A B C i from (w - 1) x y p (rw f at h) e hl hi (omega arith))

  -- the second row has a cell more, or none
  pub both-more : (A B C : List Float) (i from n w : ℕ) (x y : Four) (p : List Float) →
      PairUpdated d A B i from w w x y p →
      C ≡ with_cell d B p (i + 1) from w y →
      length A ≡ d * d →
      i + 1 < d →
      from + n ≤ d →
      w < n →
      PairUpdated d A C i from w (min n (w + 1)) x y p
  both-more A B C i from n w x y p u g hl hi hn h =
      let e : w + 1 ≡ min n (w + 1) = omega arith in
      rw (← e) (record {
        upper = u.upper;
        first = u.first;
        second = row_more u.upper B C (i + 1) from w y p u.second g (u.first.size ∙ hl) hi (omega arith);
      })

  pub both-same : (A B : List Float) (i from n w : ℕ) (x y : Four) (p : List Float) →
      PairUpdated d A B i from w w x y p →
      w ≤ n →
      n ≤ w →
      PairUpdated d A B i from w (min n (w + 1)) x y p
  both-same A B i from n w x y p u a b = let e : min n (w + 1) ≡ w = omega arith in rw e u

  -- ---- the rows before i

  pub rows_none : (A : List Float) (j from n i : ℕ) (p : List Float) → RowsUpdated d A A j from n i i p
  rows_none A j from n i p = record { rows = λ s g u. u }

  pub rows_empty : (A : List Float) (j from n rows : ℕ) (p : List Float) → rows ≤ from → from + n ≤ rows → RowsUpdated d A A j from n from rows p
  rows_empty A j from n rows p a b = let e : rows ≡ from = omega arith in record { rows = λ s g u. rw e u }

  pub rows_append : (A B C : List Float) (j from n i k m : ℕ) (p : List Float) →
      RowsUpdated d A B j from n i k p →
      RowsUpdated d B C j from n k m p →
      RowsUpdated d A C j from n i m p
  rows_append A B C j from n i k m p u v = record { rows = λ s g h. v.rows s g (u.rows s g h) }

  module _ (j from n i : ℕ) (p : List Float) (hj : j + 4 ≤ from) (hf : from ≤ i) (hn : from + n ≤ d) where
    pub one-done : (A B : List Float) (w : ℕ) (x : Four) → i < d → x ≡ four d A i j → w ≡ min n (i + 1 - from) → RowUpdated d A B i from w x p → RowsUpdated d A B j from n i (i + 1) p
    one-done A B w x hi e ew u = record {
      rows = λ s g h.
          let o : (m c : ℕ) → c < from → entry d A m c ≡ entry d s m c = λ m c b. h.rest m c (λ q. omega arith) (omega arith) in
          let f : four d A i j ≡ four d s i j = four_same d s A i j (λ c a b. o i c (omega arith)) in
          record {
            cells = λ m c a b hm hi.
                through (λ (m : ℕ). c ≤ m → entry d B m c ≡ taken (entry d s m c) (four d s m j) (four d s c j)) i
                (λ m k hm. u.rest m c (λ q. omega arith) (omega arith) ∙ h.cells m c a b hm k)
                (λ hm.
                let z : from + (c - from) ≡ c = omega arith in
                let v = u.cells (c - from) (omega arith) in
                let r = g.rows (c - from) (omega arith) in
                rw z at (rw r at v) ∙ rw (e, f, h.rest i c (λ q. omega arith) (omega arith)))
                m (omega arith) hm;
            rest = λ m c g hc. u.rest m c (λ q. g (q.1, omega arith, omega arith, omega arith)) hc ∙ h.rest m c (λ q. g (q.0, q.1, q.2, omega arith)) hc;
          };
    }

  pub two-done : (A B : List Float) (j from n i w : ℕ) (x y : Four) (p : List Float) →
      j + 4 ≤ from →
      from ≤ i →
      i + 1 < d →
      from + n ≤ d →
      x ≡ four d A i j →
      y ≡ four d A (i + 1) j →
      w ≡ min n (i + 1 - from) →
      PairUpdated d A B i from w (min n (w + 1)) x y p →
      RowsUpdated d A B j from n i (i + 2) p
  two-done A B j from n i w x y p hj hf hi hn e f ew u =
      let U = u.upper in
      let g : four d A (i + 1) j ≡ four d U (i + 1) j = sym (four_same d A U (i + 1) j (λ c a b. u.first.rest (i + 1) c (λ q. omega arith) (omega arith))) in
      let z : i + 1 + 1 ≡ i + 2 = omega arith in
      let first = one-done j from n i p hj hf hn A U w x (omega arith) e ew u.first in
      let second = one-done j from n (i + 1) p hj (omega arith) hn U B (min n (w + 1)) y hi (f ∙ g) (omega arith) u.second in
      rw z at (rows_append A U B j from n i (i + 1) (i + 1 + 1) p first second)

  -- the first row, the pairs, and perhaps a last row
  pub rows_last : (A B C D : List Float) (j from n k i rows : ℕ) (p : List Float) →
      RowsUpdated d A B j from n from k p →
      RowsUpdated d B C j from n k i p →
      RowsUpdated d C D j from n (rows - 1) (rows - 1 + 1) p →
      i + 1 ≡ rows →
      RowsUpdated d A D j from n from rows p
  rows_last A B C D j from n k i rows p u v w e =
      let f : rows - 1 ≡ i = omega arith in
      rw e at (rows_append A B D j from n from k (i + 1) p u (rows_append B C D j from n k i (i + 1) p v (rw f at w)))

  pub rows-ended : (A B C : List Float) (j from n k i rows : ℕ) (p : List Float) →
      RowsUpdated d A B j from n from k p →
      RowsUpdated d B C j from n k i p →
      i ≡ rows →
      RowsUpdated d A C j from n from rows p
  rows-ended A B C j from n k i rows p u v e = rw e at (rows_append A B C j from n from k i p u v)

  -- ---- the columns before k

  pub unpacked : (A B : List Float) (j from n rows : ℕ) (p : List Float) → Packed d A j from n p → RowsUpdated d A B j from n from rows p → Updated d A B j from (from + n) rows
  unpacked A B j from n rows p h u = u.rows A h (record { cells = λ m c a b e f. absurd (omega arith); rest = λ m c g k. refl })

  pub updated_none : (A : List Float) (j from rows : ℕ) → Updated d A A j from from rows
  updated_none A j from rows = record { cells = λ m c h k. absurd (omega arith); rest = λ m c h k. refl }

  pub updated-ended : (A B : List Float) (j from k rows : ℕ) → Updated d A B j from k rows → k ≤ rows → rows ≤ k → Updated d A B j from rows rows
  updated-ended A B j from k rows u a b = let e : k ≡ rows = omega arith in rw e at u

  -- the columns before k, and n more
  pub updated-more : (A B C : List Float) (j k n m rows : ℕ) →
      Updated d A B j (j + 4) k rows →
      Updated d B C j k (k + n) rows →
      k + n ≡ m →
      j + 4 ≤ k →
      rows ≤ d →
      Updated d A C j (j + 4) m rows
  updated-more A B C j k n m rows h u e hf hr =
      let from = j + 4 in
      let o : (r c : ℕ) → c < from → c < d → entry d B r c ≡ entry d A r c = λ r c b q. h.rest r c (λ z. omega arith) q in
      let f : (r : ℕ) → r < rows → from ≤ r → four d B r j ≡ four d A r j = λ r a b. four_same d A B r j (λ c g q. o r c (omega arith) (omega arith)) in
      record {
        cells = λ r c hc hn hm hw.
            ⊎_elim
            (λ (b : c < k). u.rest r c (λ q. omega arith) (omega arith) ∙ h.cells r c hc b hm hw)
            (λ (b : k ≤ c). u.cells r c b (omega arith) hm hw ∙ rw (h.rest r c (λ q. omega arith) (omega arith), f r hw (omega arith), f c (omega arith) hc))
            (below_or_not c k);
        rest = λ r c g hc. u.rest r c (λ q. g (omega arith, omega arith, q.2, q.3)) hc ∙ h.rest r c (λ q. g (q.0, omega arith, q.2, q.3)) hc;
      }
