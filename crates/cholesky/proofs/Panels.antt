-- The rows below four pivots, in the pivots' columns, and the whole factor, four columns at a time. Assumes nothing.
use mathlib.Core.Path.{◌≡◌, refl, sym, ap, ap₂, ◌∙◌}
use mathlib.Core.Logic.{⊎_elim}
use mathlib.Core.Bool.{Bool, true, false, not}
use mathlib.Core.List.{List}
use Prim.Native.Nat.{ℕ, zero, suc, ◌+◌, ◌-◌, ◌*◌, ◌≤◌, ◌<◌}
use native.Mathlib.Nat.{eq-or-lt_of_le}
use native.Mathlib.Omega.{arith}
use borrow.Author.Tests.{not-true, not-false}
use lib.ListN.{length}
use lib.Ieee.{Float, binary64, div}
use lib.Ieee.Scale.{finite}
use Rattle.field.specs.Count.{upto}
use Rattle.field.proofs.Counting.{upto_add, upto-ext}
use Rattle.cholesky.specs.declared.Four.{Four}
use Rattle.std.proofs.Common.{Result, Ok, Err}
use Rattle.cholesky.specs.declared.Breakdown.{Breakdown}
use Rattle.cholesky.specs.declared.Breakdown.TheVariants.{Factor}
use Rattle.cholesky.specs.Cholesky.{ended, entry, inner_step, factor}
use Rattle.cholesky.specs.inner.Stages.{lane, finite4, off, taken, four, stored, Solves, left, Made, FactorCells, Refused}
use Rattle.cholesky.specs.inner.Stages.{RowsDone, RowsEnd, PanelReady, PanelMade, PanelEnds, OutsidePanel}
use Rattle.cholesky.specs.inner.Stages.{RowsFinished, RowSolved, PanelSolved, Eliminated, ColumnsEnd, Stage, Reached, Finishes}
use Rattle.cholesky.proofs.Places.{below_or_not, through}
use Rattle.cholesky.proofs.Fours.{lane-four, stored-size, stored-own, stored-rest, finite-lanes, infinite-lane}
use Rattle.cholesky.proofs.Lower.{left-none, factor-cells, fewer, stops-at-entry, ends}

-- ---- a row of the panel

module _ (d : ℕ) (A : List Float) (i j : ℕ) (v x : Four) (b : Bool) (e : v ≡ four d A i j) (f : Solves d A j v x) (g : b ≡ finite4 x) where
  pub solved-done : (B : List Float) → b ≡ true → B ≡ stored d A i j x → RowSolved d A B i j true
  solved-done B t h = record { x = x; solves = rw e at f; test = sym t ∙ g; result = h }

  pub solved-stopped : b ≡ false → RowSolved d A A i j false
  solved-stopped t = record { x = x; solves = rw e at f; test = sym t ∙ g; result = refl }

-- further products: those of the columns j to j + n - 1, after the first j
module _ (d : ℕ) (s l : List Float) where
  left-more : (m c j n : ℕ) (u : Float) (x y : ℕ → Float) →
      u ≡ left d s l m c j →
      ((k : ℕ) → k < n → x k ≡ entry d l m (j + k)) →
      ((k : ℕ) → k < n → y k ≡ entry d l c (j + k)) →
      upto (λ k v. off v (x k) (y k)) n u ≡ left d s l m c (j + n)
  left-more m c j n u x y e f g =
      upto-ext (λ k v. off v (x k) (y k)) (λ k. inner_step d l m c (j + k)) n u (λ k v h. ap₂ (off v) (f k h) (g k h))
      ∙ ap (upto (λ k. inner_step d l m c (j + k)) n) e
      ∙ sym (upto_add (inner_step d l m c) j n (entry d s m c))

  -- the quotients are l's
  solved : (B : List Float) (i j : ℕ) (v x : Four) →
      FactorCells d s l →
      Made d l B (j + 4) →
      ((k : ℕ) → k < 4 → lane k v ≡ left d s l i (j + k) j) →
      Solves d B j v x →
      j + 4 ≤ i →
      i < d →
      (n : ℕ) → n ≤ 4 → (k : ℕ) → k < n → lane k x ≡ entry d l i (j + k)
  solved B i j v x law h w e hj hi zero hn k hk = absurd (omega arith)
  solved B i j v x law h w e hj hi (suc n) hn k hk =
      let before = solved B i j v x law h w e hj hi n (omega arith) in
      through (λ (k : ℕ). lane k x ≡ entry d l i (j + k)) n before
      (e.quotients n (omega arith)
      ∙ ap₂ (div binary64)
      (left-more i (j + n) j n (lane n v) (λ o. lane o x) (λ o. entry d B (j + n) (j + o)) (w n (omega arith)) before (λ o b. h (j + n) (j + o) (omega arith) (omega arith)))
      (h (j + n) (j + n) (omega arith) (omega arith))
      ∙ sym (law.quotients i (j + n) (omega arith) hi))
      k (omega arith)

  -- four products more of l's
  taken-off : (D : List Float) (m c j : ℕ) →
      entry d D m c ≡ left d s l m c j →
      ((o : ℕ) → o < j + 4 → entry d D m o ≡ entry d l m o) →
      ((o : ℕ) → o < j + 4 → entry d D c o ≡ entry d l c o) →
      taken (entry d D m c) (four d D m j) (four d D c j) ≡ left d s l m c (j + 4)
  unfolding taken
  taken-off D m c j e f g =
      left-more m c j 4 (entry d D m c) (λ k. lane k (four d D m j)) (λ k. lane k (four d D c j)) e
      (λ k h. lane-four d D m j k h ∙ f (j + k) (omega arith))
      (λ k h. lane-four d D c j k h ∙ g (j + k) (omega arith))

-- ---- the panel's rows before i

module _ (d : ℕ) where
  pub record PanelSoFar (A B : List Float) (j rows i : ℕ) : Type 0 where
    pub size : length B ≡ d * d
    made : (s l : List Float) → PanelReady d s l A j rows → PanelMade d s l B j i
    rest : OutsidePanel d A B j i

  pub panel-none : (A : List Float) (j rows : ℕ) → length A ≡ d * d → PanelSoFar A A j rows (j + 4)
  panel-none A j rows hl = record { size = hl; made = λ s l y m c h k. absurd (omega arith); rest = λ m c h k. refl }

  pub panel-ended : (A B : List Float) (j rows i : ℕ) → PanelSoFar A B j rows i → j + 4 ≤ i → i ≤ rows → rows ≤ i → PanelSolved d A B j rows rows
  panel-ended A B j rows i p hj a b =
      let e : i ≡ rows = omega arith in
      record {
        low = omega arith;
        high = omega arith;
        ends = λ s l y. record { made = rw e at (p.made s l y); refused = λ h u. absurd (omega arith) };
        rest = rw e at p.rest;
      }

  module _ (A B C : List Float) (j rows i : ℕ) (b : Bool) (p : PanelSoFar A B j rows i) (q : RowSolved d B C i j b) (hj : j + 4 ≤ i) (hi : i < rows) (hr : rows ≤ d) where
    -- row i's quotients are l's
    row-solved : (s l : List Float) → PanelReady d s l A j rows → (k : ℕ) → k < 4 → lane k q.x ≡ entry d l i (j + k)
    row-solved s l y =
        solved d s l B i j (four d B i j) q.x y.law
        (λ m c hm hc. p.rest m c (λ z. omega arith) (omega arith) ∙ y.pivots m c hm hc)
        (λ k h.
        lane-four d B i j k h
        ∙ p.rest i (j + k) (λ z. omega arith) (omega arith)
        ∙ y.below i (j + k) hj hi (omega arith) (omega arith))
        q.solves hj (omega arith) 4 (omega arith)

    pub panel-more : not b ≡ false → PanelSoFar A C j rows (i + 1)
    panel-more t =
        let x = q.x in
        let yes : b ≡ true = not-false b t in
        let e : C ≡ stored d B i j x = rw yes at q.result in
        let f : (k : ℕ) → k < 4 → finite (lane k x) ≡ true = finite-lanes x (sym q.test ∙ yes) in
        let other : (m c : ℕ) → ((m ≡ i) × (j ≤ c) × (c < j + 4) → ⊥) → c < d → entry d C m c ≡ entry d B m c =
        λ m c g hc. rw e (stored-rest d B i j x p.size (omega arith) (omega arith) m c g hc) in
        record {
          size = rw e (stored-size d B i j x p.size (omega arith) (omega arith));
          made = λ s l y m c hm hn ha hb.
              through (λ (m : ℕ). j + 4 ≤ m → (entry d C m c ≡ entry d l m c) × (finite (entry d l m c) ≡ true)) i
              (λ m g h. let r = p.made s l y m c h g ha hb in (other m c (λ z. omega arith) (omega arith) ∙ r.0, r.1))
              (λ h.
              let k = c - j in
              let z : j + k ≡ c = omega arith in
              let r = row-solved s l y k (omega arith) in
              let o : entry d C i (j + k) ≡ lane k x = rw e (stored-own d B i j x p.size (omega arith) (omega arith) k (omega arith)) in
              let t : (entry d C i (j + k) ≡ entry d l i (j + k)) × (finite (entry d l i (j + k)) ≡ true) = (o ∙ r, rw r at (f k (omega arith))) in
              rw z at t)
              m (omega arith) hm;
          rest = λ m c g hc. other m c (λ z. g (omega arith, omega arith, z.1, z.2)) hc ∙ p.rest m c (λ z. g (z.0, omega arith, z.2, z.3)) hc;
        }

    pub panel-stopped : not b ≡ true → PanelSolved d A C j rows i
    panel-stopped t =
        let no : b ≡ false = not-true b t in
        let e : C ≡ B = rw no at q.result in
        let w = infinite-lane q.x (sym q.test ∙ no) in
        let k = w.0 in
        rw e (record {
          low = hj;
          high = omega arith;
          ends = λ s l y.
              let r = row-solved s l y in
              record {
                made = p.made s l y;
                refused = λ h u.
                    stops-at-entry d s l y.size y.law i (j + k) u (omega arith) (omega arith)
                    (λ c hc.
                    ⊎_elim
                    (λ (b : c < j). y.passed.entries i c hi (omega arith) b)
                    (λ (b : j ≤ c).
                    let z : j + (c - j) ≡ c = omega arith in
                    rw z at (rw (r (c - j) (omega arith)) at (w.3 (c - j) (omega arith))))
                    (below_or_not c j))
                    (rw (r k w.1) at w.2);
              };
          rest = p.rest;
        })

-- ---- four columns at a time

module _ (d : ℕ) where
  pub reached-none : (s : List Float) → Reached d s s d 0
  reached-none s = record {
    stage = λ l law. record {
      passed = record { entries = λ m c h k q. absurd (omega arith); pivots = λ m h k. absurd (omega arith) };
      partial = record { made = λ m c h k q. absurd (omega arith); rest = λ m c h k q. left-none d s l m c };
      refused = λ h. absurd (omega arith);
      above = λ m c h k. refl;
    };
  }

-- B is the matrix before the pivots' rows are made, C after
module _ (d : ℕ) (s B C : List Float) (rows j to : ℕ) (r : Result (Unit {0}) Breakdown) (h : Reached d s B rows j) (f : RowsFinished d B C j to r) (hs : length s ≡ d * d) (ht : to ≤ rows) where
  rows-answer : (l : List Float) → FactorCells d s l → RowsEnd d s l r B C to
  rows-answer l law =
      let st = h.stage l law in
      f.ends s l (record {
        size = hs;
        law = law;
        passed = fewer d s l rows j to j st.passed ht (omega arith);
        partial = record { made = λ m c a b e. st.partial.made m c (omega arith) b e; rest = λ m c a b e. st.partial.rest m c (omega arith) b e };
      })

-- the four columns: D is C with the panel made, E with the products taken off
module _ (d : ℕ) (s B C E : List Float) (rows j n : ℕ) (r : Result (Unit {0}) Breakdown) (h : Reached d s B rows j) (f : RowsFinished d B C j (j + 4) r)
    (hs : length s ≡ d * d) (g : Eliminated d C E j rows n) (t : r ≡ Ok tt) (hr : rows ≤ d) (l : List Float) (law : FactorCells d s l) where
  stage : Stage d s l B rows j
  stage = h.stage l law

  block : RowsDone d s l B C (j + 4)
  block = let a = g.low in let b = g.high in (rows-answer d s B C rows j (j + 4) r h f hs (omega arith) l law).done t

  -- what the pivots' rows leave as it is
  unchanged : (m c : ℕ) → j + 4 ≤ m → c < d → entry d C m c ≡ entry d B m c
  unchanged m c a b = block.rest m c (λ q. omega arith) b

  panel-end : PanelEnds d s l g.solved j rows n
  panel-end =
      g.panel.ends s l (record {
        size = hs;
        law = law;
        passed = stage.passed;
        pivots = block.made;
        below = λ m c a b e k. unchanged m c a (omega arith) ∙ stage.partial.rest m c b (omega arith) e;
      })

  -- D's cells outside the panel
  outside : (m c : ℕ) → ((j + 4 ≤ m) × (m < n) × (j ≤ c) × (c < j + 4) → ⊥) → c < d → entry d g.solved m c ≡ entry d C m c
  outside = g.panel.rest

  -- the columns before j + 4
  made : (m c : ℕ) → m < n → c ≤ m → c < j + 4 → entry d g.solved m c ≡ entry d l m c
  made m c a k b =
      let high = g.high in
      ⊎_elim
      (λ (u : m < j + 4). outside m c (λ q. omega arith) (omega arith) ∙ block.made m c u k)
      (λ (u : j + 4 ≤ m).
      ⊎_elim
      (λ (v : c < j). outside m c (λ q. omega arith) (omega arith) ∙ unchanged m c u (omega arith) ∙ stage.partial.made m c (omega arith) k v)
      (λ (v : j ≤ c). (panel-end.made m c u a v b).0)
      (below_or_not c j))
      (below_or_not m (j + 4))

  passed : (m c : ℕ) → m < n → c < m → c < j + 4 → finite (entry d l m c) ≡ true
  passed m c a k b =
      let high = g.high in
      ⊎_elim
      (λ (u : m < j + 4). block.passed.entries m c u k b)
      (λ (u : j + 4 ≤ m).
      ⊎_elim
      (λ (v : c < j). stage.passed.entries m c (omega arith) k v)
      (λ (v : j ≤ c). (panel-end.made m c u a v b).1)
      (below_or_not c j))
      (below_or_not m (j + 4))

  after : (m c : ℕ) → m < n → c ≤ m → j + 4 ≤ c → entry d E m c ≡ left d s l m c (j + 4)
  after m c a k b =
      let high = g.high in
      g.update.cells m c b (omega arith) k a
      ∙ taken-off d s l g.solved m c j
      (outside m c (λ q. omega arith) (omega arith) ∙ unchanged m c (omega arith) (omega arith) ∙ stage.partial.rest m c (omega arith) k (omega arith))
      (λ o q. made m o a (omega arith) q)
      (λ o q. made c o (omega arith) (omega arith) q)

  refusal : n < d → Refused d s l n
  refusal a u =
      ⊎_elim
      (λ (e : n ≡ rows). rw e (stage.refused (omega arith) (rw e at u)))
      (λ (b : n < rows). panel-end.refused b u)
      (eq-or-lt_of_le g.high)

  next-stage : Stage d s l E n (j + 4)
  next-stage =
      let high = g.high in
      record {
        passed = record { entries = passed; pivots = λ m a b. block.passed.pivots m b b };
        partial = record { made = λ m c a k b. g.update.rest m c (λ q. omega arith) (omega arith) ∙ made m c a k b; rest = after };
        refused = refusal;
        above = λ m c a b.
            g.update.rest m c (λ q. omega arith) b
            ∙ outside m c (λ q. omega arith) b
            ∙ block.rest m c (λ q. omega arith) b
            ∙ stage.above m c a b;
      }

module _ (d : ℕ) where
  pub columns-done : (A B C : List Float) (rows j n : ℕ) (r : Result (Unit {0}) Breakdown) →
      Eliminated d C B j rows n →
      RowsFinished d A C j (j + 4) r →
      r ≡ Ok tt →
      rows ≤ d →
      ColumnsEnd d A B j rows (Ok n)
  columns-done A B C rows j n r g f t hr = record {
    low = λ m e. let z : n ≡ m = cc in rw z at g.low;
    high = λ m e. let z : n ≡ m = cc in rw z at g.high;
    done = λ s hs h m e.
        let z : n ≡ m = cc in
        let u : Reached d s B n (j + 4) = record { stage = next-stage d s A C B rows j n r h f hs g t hr } in
        rw z at u;
    stops = λ s hs h b z. absurd (cc);
  }

  pub columns-stopped : (A C : List Float) (rows j : ℕ) (r : Result (Unit {0}) Breakdown) (b : Breakdown) →
      RowsFinished d A C j (j + 4) r →
      r ≡ Err b →
      j + 4 ≤ rows →
      ColumnsEnd d A C j rows (Err b)
  columns-stopped A C rows j r b f e hj = record {
    low = λ m t. absurd (cc);
    high = λ m t. absurd (cc);
    done = λ s hs h m t. absurd (cc);
    stops = λ s hs h q z.
        let w = factor-cells d s hs in
        let k : b ≡ q = cc in
        (rows-answer d s A C rows j (j + 4) r h f hs hj w.0 w.1).stops q (rw k at e);
  }

  pub reached-more : (s A B : List Float) (rows j n : ℕ) (r : Result ℕ Breakdown) →
      ColumnsEnd d A B j rows r →
      r ≡ Ok n →
      Reached d s A rows j →
      length s ≡ d * d →
      Reached d s B n (j + 4)
  reached-more s A B rows j n r f e h hs = f.done s hs h n e

  pub reached-stopped : (s A B : List Float) (rows j : ℕ) (r : Result ℕ Breakdown) (b : Breakdown) →
      ColumnsEnd d A B j rows r →
      r ≡ Err b →
      Reached d s A rows j →
      length s ≡ d * d →
      Err b ≡ factor d s
  reached-stopped s A B rows j r b f e h hs = f.stops s hs h b e

  -- ---- the last rows

  pub last-stopped : (A B : List Float) (rows j : ℕ) (r : Result (Unit {0}) Breakdown) (b : Breakdown) → RowsFinished d A B j rows r → r ≡ Err b → Finishes d A B rows j (Err b)
  last-stopped A B rows j r b f e = record {
    answer = λ s hs h. let w = factor-cells d s hs in (rows-answer d s A B rows j rows r h f hs (omega arith) w.0 w.1).stops b e;
  }

  module _ (A B : List Float) (rows j : ℕ) (r : Result (Unit {0}) Breakdown) (f : RowsFinished d A B j rows r) (t : r ≡ Ok tt) (hr : rows ≤ d) where
    pub last-refused : rows < d → Finishes d A B rows j (Err (Factor rows))
    last-refused a = record {
      answer = λ s hs h.
          let w = factor-cells d s hs in
          let e = (rows-answer d s A B rows j rows r h f hs (omega arith) w.0 w.1).done t in
          (h.stage w.0 w.1).refused a e.passed;
    }

    pub last_done : d ≤ rows → length B ≡ length A → length A ≡ d * d → Finishes d A B rows j (Ok tt)
    last_done a hb hl = record {
      answer = λ s hs h.
          let w = factor-cells d s hs in
          let l = w.0 in
          let e = (rows-answer d s A B rows j rows r h f hs (omega arith) l w.1).done t in
          ends d s l hs w.1 B (fewer d s l rows rows d d e.passed a a) (hb ∙ hl)
          (λ m c b k. e.made m c (omega arith) k)
          (λ m c b k. e.rest m c (λ q. omega arith) k ∙ (h.stage l w.1).above m c b k);
    }

  pub factored : (s A B : List Float) (rows j : ℕ) (r : Result (Unit {0}) Breakdown) → Reached d s A rows j → Finishes d A B rows j r → length s ≡ d * d → ended r B ≡ factor d s
  factored s A B rows j r h f hs = f.answer s hs h
