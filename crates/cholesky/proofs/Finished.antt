-- Rows finished from what stands in them: their first products are taken off already. Assumes nothing.
use mathlib.Core.Path.{◌≡◌, refl, sym, ap, ap₂, ◌∙◌}
use mathlib.Core.Bool.{Bool, true, false, cond, ◌&&◌}
use mathlib.Core.List.{List}
use Prim.Native.Nat.{ℕ, ◌+◌, ◌*◌, ◌≤◌, ◌<◌}
use native.Mathlib.Numerals.{add-one}
use native.Mathlib.Omega.{arith}
use lib.ListN.{length, set, length-set}
use lib.Seq.{set-set}
use lib.Ieee.{Float, binary64, div, lt}
use lib.Ieee.Scale.{finite}
use Rattle.field.specs.Vec.{null}
use Rattle.field.specs.Count.{upto}
use Rattle.field.proofs.Counting.{upto-suc, upto-ext}
use Rattle.sqrt.specs.Root.{root}
use Rattle.std.proofs.Common.{Result, Ok, Err}
use Rattle.cholesky.specs.declared.Breakdown.{Breakdown}
use Rattle.cholesky.specs.declared.Breakdown.TheVariants.{Pivot, Factor}
use Rattle.cholesky.specs.Cholesky.{ended, entry, inner_step, remainder, factor_entry, pivot}
use Rattle.cholesky.specs.inner.Stages.{off, Outside, reduced, left, Reduces, Continues, Made, RowFinite, FactorCells, positive}
use Rattle.cholesky.specs.inner.Stages.{RowReady, RowEnds, RowsReady, RowsDone, RowFinished, RowsFinished}
use Rattle.cholesky.proofs.Places.{through}
use Rattle.cholesky.proofs.Factored.{entry-step, pivot-step}
use Rattle.cholesky.proofs.Lower.{entry-same, entry_other, left-same, fewer, stops-at-entry, stops-at-pivot}

-- ---- the steps at a cell

module _ (d : ℕ) where
  pub remainder-more : (A : List Float) (i j from k : ℕ) (v x y : Float) →
      Reduces d A i j from k v →
      x ≡ entry d A i k →
      y ≡ entry d A j k →
      Reduces d A i j from (k + 1) (off v x y)
  remainder-more A i j from k v x y r f g = record { value = λ u e. rw (r.value u e, f, g, add-one, upto-suc) }

  -- the matrix with the cell as it was, u
  restored : (A : List Float) (i j : ℕ) (u : Float) → length A ≡ d * d → j ≤ i → i < d → reduced d A i j j u ≡ remainder d (set A (i * d + j) u) i j
  unfolding remainder
  restored A i j u hl hj hi =
      let B = set A (i * d + j) u in
      upto-ext (inner_step d A i j) (inner_step d B i j) j u
      (λ o v h.
      ap₂ (off v)
      (sym (entry_other d A i j i o u (λ q. omega arith) (omega arith) (omega arith)))
      (sym (entry_other d A i j j o u (λ q. omega arith) (omega arith) (omega arith))))
      ∙ ap (upto (inner_step d B i j) j) (sym (entry-same d A i j u hl hi (omega arith)))

  -- what the step makes of it, where v is the remainder and w the pivot
  restored-entry : (i j : ℕ) (A : List Float) (u v w : Float) (b : Bool) →
      length A ≡ d * d →
      j < i →
      i < d →
      v ≡ reduced d A i j j u →
      w ≡ entry d A j j →
      finite (div binary64 v w) ≡ b →
      factor_entry d i j (set A (i * d + j) u) ≡ cond b (Ok (set A (i * d + j) (div binary64 v w))) (Err (Factor i))
  restored-entry i j A u v w b hl hj hi e g f =
      entry-step d i j (set A (i * d + j) u) v w b
      (e ∙ restored A i j u hl (omega arith) hi)
      (g ∙ sym (entry_other d A i j j j u (λ q. omega arith) (omega arith) (omega arith)))
      f
      ∙ rw set-set refl

  restored-pivot : (i : ℕ) (A : List Float) (u v : Float) (b : Bool) →
      length A ≡ d * d →
      i < d →
      v ≡ reduced d A i i i u →
      (finite v && lt null v) ≡ b →
      pivot d i (set A (i * d + i) u) ≡ cond b (Ok (set A (i * d + i) (root binary64 v))) (Err (Pivot i))
  restored-pivot i A u v b hl hi e f = pivot-step d i (set A (i * d + i) u) v b (e ∙ restored A i i u hl (omega arith) hi) f ∙ rw set-set refl

  module _ (A : List Float) (i j from : ℕ) (hl : length A ≡ d * d) (hj : j < i) (hi : i < d)
      (v w : Float) (rem : Reduces d A i j from j v) (by : w ≡ entry d A j j) (b : Bool) (test : b ≡ finite (div binary64 v w)) where
    pub entry_done : (B : List Float) → b ≡ true → B ≡ set A (i * d + j) (div binary64 v w) → Continues d (factor_entry d i j) A i j from (Ok tt) B
    entry_done B t e = record { answer = λ u f. rw e (sym (restored-entry i j A u v w true hl hj hi (rem.value u f) by (sym test ∙ t))) }

    pub entry-stopped : b ≡ false → Continues d (factor_entry d i j) A i j from (Err (Factor i)) A
    entry-stopped t = record { answer = λ u f. sym (restored-entry i j A u v w false hl hj hi (rem.value u f) by (sym test ∙ t)) }

  module _ (A : List Float) (i from : ℕ) (hl : length A ≡ d * d) (hi : i < d)
      (v : Float) (rem : Reduces d A i i from i v) (b : Bool) (test : b ≡ (finite v && lt null v)) where
    pub pivot-done : (x : Float) (B : List Float) → b ≡ true → x ≡ root binary64 v → B ≡ set A (i * d + i) x → Continues d (pivot d i) A i i from (Ok tt) B
    pivot-done x B t g e = record { answer = λ u f. rw (e, g) (sym (restored-pivot i A u v true hl hi (rem.value u f) (sym test ∙ t))) }

    pub pivot-stopped : b ≡ false → Continues d (pivot d i) A i i from (Err (Pivot i)) A
    pivot-stopped t = record { answer = λ u f. sym (restored-pivot i A u v false hl hi (rem.value u f) (sym test ∙ t)) }

-- what an answer tells of its test
record Answered (b : Bool) (r : Result (Unit {0}) Breakdown) (C D : List Float) (k : Breakdown) : Type 0 where
  done : r ≡ Ok tt → (C ≡ D) × (b ≡ true)
  stopped : (q : Breakdown) → r ≡ Err q → (q ≡ k) × (b ≡ false)

answered : (b : Bool) (r : Result (Unit {0}) Breakdown) (C D : List Float) (k : Breakdown) → ended r C ≡ cond b (Ok D) (Err k) → Answered b r C D k
answered true (Ok tt) C D k e = record { done = λ f. (cc, refl); stopped = λ q f. absurd (cc) }
answered true (Err q) C D k e = absurd (cc)
answered false (Ok tt) C D k e = absurd (cc)
answered false (Err q) C D k e = record { done = λ f. absurd (cc); stopped = λ q' f. (cc, refl) }

-- ---- a row: B is the matrix before the cell in column j

module _ (d : ℕ) (s l : List Float) where
  -- the rows before row i are made, and the row's own entries before column j; the rest of it holds what the first `from` products leave
  record Row (B : List Float) (i from j : ℕ) : Type 0 where
    size : length B ≡ d * d
    above : Made d l B i
    own : (c : ℕ) → c < j → entry d B i c ≡ entry d l i c
    rest : (c : ℕ) → j ≤ c → c ≤ i → entry d B i c ≡ left d s l i c from

  row-left : (B : List Float) (i from j k : ℕ) → Row B i from j → k ≤ j → j ≤ i → left d s l i j k ≡ left d s B i j k
  row-left B i from j k r hk hj =
      left-same d s l B i j k
      (λ o h. sym (r.own o (omega arith)))
      (λ o h. through (λ (c : ℕ). o < c → entry d l c o ≡ entry d B c o) i (λ c b g. sym (r.above c o b (omega arith))) (λ g. sym (r.own o (omega arith))) j hj (omega arith))

  module _ (B C : List Float) (i from j : ℕ) (r : Result (Unit {0}) Breakdown) (law : FactorCells d s l) (w : Row B i from j) (hf : from ≤ j) (hi : i < d) where
    -- what stands in the cell is what `from` products leave
    cell-left : j ≤ i → entry d B i j ≡ left d s B i j from
    cell-left hj = w.rest j (omega arith) hj ∙ row-left B i from j from w hf hj

    entry-answered : j < i → Continues d (factor_entry d i j) B i j from r C → Answered (finite (entry d l i j)) r C (set B (i * d + j) (entry d l i j)) (Factor i)
    entry-answered hj f =
        let e = law.quotients i j hj hi in
        answered _ r C _ (Factor i)
        (f.answer (entry d s i j) (cell-left (omega arith))
        ∙ rw e (
        restored-entry d i j B (entry d s i j) (left d s l i j j) (entry d l j j) _ w.size hj hi
        (row-left B i from j j w (omega arith) (omega arith))
        (sym (w.above j j hj (omega arith)))
        refl))

    pivot-answered : j ≡ i → Continues d (pivot d i) B i i from r C → Answered (positive d s l i) r C (set B (i * d + i) (entry d l i i)) (Pivot i)
    pivot-answered e f =
        answered _ r C _ (Pivot i)
        (f.answer (entry d s i i) (rw e at (cell-left (omega arith)))
        ∙ rw (law.roots i hi) (restored-pivot d i B (entry d s i i) (left d s l i i i) _ w.size hi (rw e at (row-left B i from j j w (omega arith) (omega arith))) refl))

  -- B is A with the row's cells before column j made
  record RowMade (A B : List Float) (i from j : ℕ) : Type 0 where
    row : Row B i from j
    entries : RowFinite d l i j
    rest : Outside d (λ (m c : ℕ). (m ≡ i) × (c ≤ i)) A B

  finite-more : (i j : ℕ) → RowFinite d l i j → finite (entry d l i j) ≡ true → RowFinite d l i (j + 1)
  finite-more i j h t c hc = through _ j h t c (omega arith)

  -- C is B with column j made
  module _ (A B C : List Float) (i from j : ℕ) (p : RowMade A B i from j) (e : C ≡ set B (i * d + j) (entry d l i j)) (hj : j ≤ i) (hi : i < d) where
    other : (m c : ℕ) → ((m ≡ i) × (c ≡ j) → ⊥) → c < d → entry d C m c ≡ entry d B m c
    other m c f hc = rw e (entry_other d B i j m c (entry d l i j) f (omega arith) hc)

    own-more : (c : ℕ) → c ≤ j → entry d C i c ≡ entry d l i c
    own-more =
        through _ j
        (λ c b. other i c (λ q. omega arith) (omega arith) ∙ p.row.own c b)
        (rw e (entry-same d B i j (entry d l i j) p.row.size hi (omega arith)))

    rest_more : Outside d (λ (m c : ℕ). (m ≡ i) × (c ≤ i)) A C
    rest_more m c g hc = other m c (λ q. g (q.0, omega arith)) hc ∙ p.rest m c g hc

    cell-more : finite (entry d l i j) ≡ true → j < i → RowMade A C i from (j + 1)
    cell-more t b = record {
      row = record {
        size = ap length e ∙ length-set B (i * d + j) (entry d l i j) ∙ p.row.size;
        above = λ m c hm hc. other m c (λ q. omega arith) (omega arith) ∙ p.row.above m c hm hc;
        own = λ c hc. own-more c (omega arith);
        rest = λ c hc hk. other i c (λ q. omega arith) (omega arith) ∙ p.row.rest c (omega arith) hk;
      };
      entries = finite-more i j p.entries t;
      rest = rest_more;
    }

module _ (d : ℕ) where
  pub record RowSoFar (A B : List Float) (i from j : ℕ) : Type 0 where
    made : (s l : List Float) → RowReady d s l A i from → RowMade d s l A B i from j

  pub row-none : (A : List Float) (i from : ℕ) → length A ≡ d * d → RowSoFar A A i from from
  row-none A i from hl = record {
    made = λ s l y. record {
      row = record { size = hl; above = y.above; own = y.made; rest = y.rest };
      entries = y.entries;
      rest = λ m c h k. refl;
    };
  }

  pub row_more : (A B C : List Float) (i from j : ℕ) (r : Result (Unit {0}) Breakdown) →
      RowSoFar A B i from j →
      Continues d (factor_entry d i j) B i j from r C →
      r ≡ Ok tt →
      from ≤ j →
      j < i →
      i < d →
      RowSoFar A C i from (j + 1)
  row_more A B C i from j r h f t hf hj hi = record {
    made = λ s l y.
        let p = h.made s l y in
        let q = (entry-answered d s l B C i from j r y.law p.row hf hi hj f).done t in
        cell-more d s l A B C i from j p q.0 (omega arith) hi q.1 hj;
  }

  pub row-stopped : (A B C : List Float) (i from j : ℕ) (r : Result (Unit {0}) Breakdown) (b : Breakdown) →
      RowSoFar A B i from j →
      Continues d (factor_entry d i j) B i j from r C →
      r ≡ Err b →
      from ≤ j →
      j < i →
      i < d →
      RowFinished d A C i from (Err b)
  row-stopped A B C i from j r b h f t hf hj hi = record {
    ends = λ s l y.
        let p = h.made s l y in
        let w = (entry-answered d s l B C i from j r y.law p.row hf hi hj f).stopped b t in
        record {
          done = λ z. absurd (cc);
          stops = λ k z. let e : k ≡ Factor i = cc in rw e (stops-at-entry d s l y.size y.law i j y.passed hi hj p.entries w.1);
        };
  }

  pub row-ended : (A B C : List Float) (i from j : ℕ) (r : Result (Unit {0}) Breakdown) →
      RowSoFar A B i from j →
      Continues d (pivot d i) B i i from r C →
      from ≤ j →
      j ≤ i →
      i ≤ j →
      i < d →
      RowFinished d A C i from r
  row-ended A B C i from j r h f hf ha hb hi = record {
    ends = λ s l y.
        let e : j ≡ i = omega arith in
        let p = rw e at (h.made s l y) in
        let q = pivot-answered d s l B C i from i r y.law p.row (omega arith) hi refl f in
        record {
          done = λ t.
              let w = q.done t in
              record {
                made = own-more d s l A B C i from i p w.0 (omega arith) hi;
                entries = p.entries;
                pivot = w.1;
                rest = rest_more d s l A B C i from i p w.0 (omega arith) hi;
              };
          stops = λ k z. let w = q.stopped k z in rw w.0 (stops-at-pivot d s l y.size y.law i y.passed hi p.entries w.1);
        };
  }

  -- ---- rows

  pub record RowsSoFar (A B : List Float) (from to i : ℕ) : Type 0 where
    made : (s l : List Float) → RowsReady d s l A from to → RowsDone d s l A B i

  pub rows_none : (A : List Float) (from to : ℕ) → from ≤ to → RowsSoFar A A from to from
  rows_none A from to h = record {
    made = λ s l y. record {
      made = λ m c hm hc. y.partial.made m c (omega arith) hc (omega arith);
      passed = fewer d s l to from from from y.passed h (omega arith);
      rest = λ m c g hc. refl;
    };
  }

  module _ (A B C : List Float) (from to i : ℕ) (r : Result (Unit {0}) Breakdown) (h : RowsSoFar A B from to i) (f : RowFinished d B C i from r) (hf : from ≤ i) (hi : i < to) (ht : to ≤ d) where
    -- row i's answer, from what the rows before it give
    row-answer : (s l : List Float) → RowsReady d s l A from to → RowEnds d s l r B C i
    row-answer s l y =
        let p = h.made s l y in
        f.ends s l (record {
          size = y.size;
          law = y.law;
          passed = p.passed;
          entries = λ c hc. y.passed.entries i c hi (omega arith) hc;
          above = p.made;
          made = λ c hc. p.rest i c (λ q. omega arith) (omega arith) ∙ y.partial.made i c hi (omega arith) hc;
          rest = λ c hc hk. p.rest i c (λ q. omega arith) (omega arith) ∙ y.partial.rest i c hi hk hc;
        })

    pub rows_more : r ≡ Ok tt → RowsSoFar A C from to (i + 1)
    rows_more t = record {
      made = λ s l y.
          let p = h.made s l y in
          let q = (row-answer s l y).done t in
          record {
            made = λ m c hm.
                through (λ (m : ℕ). c ≤ m → entry d C m c ≡ entry d l m c) i
                (λ m b hc. q.rest m c (λ z. omega arith) (omega arith) ∙ p.made m c b hc)
                (λ hc. q.made c hc)
                m (omega arith);
            passed = record {
              entries = λ m c hm hc hk.
                  through (λ (m : ℕ). c < m → finite (entry d l m c) ≡ true) i
                  (λ m b h. p.passed.entries m c b h (omega arith))
                  (λ h. q.entries c h)
                  m (omega arith) hc;
              pivots = λ m hm hk. through (λ (m : ℕ). positive d s l m ≡ true) i (λ m b. p.passed.pivots m b b) q.pivot m (omega arith);
            };
            rest = λ m c g hc. q.rest m c (λ z. g (omega arith, omega arith)) hc ∙ p.rest m c (λ z. g (omega arith, z.1)) hc;
          };
    }

    pub rows-stopped : (b : Breakdown) → r ≡ Err b → RowsFinished d A C from to (Err b)
    rows-stopped b t = record { ends = λ s l y. record { done = λ z. absurd (cc); stops = λ k z. (row-answer s l y).stops k (t ∙ z) } }

  pub rows-ended : (A B : List Float) (from to i : ℕ) → RowsSoFar A B from to i → i ≤ to → to ≤ i → RowsFinished d A B from to (Ok tt)
  rows-ended A B from to i h a b = record {
    ends = λ s l y.
        let e : i ≡ to = omega arith in
        record { done = λ z. rw e at (h.made s l y); stops = λ k z. absurd (cc) };
  }
