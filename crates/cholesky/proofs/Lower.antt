-- The factor's cells as numbers, whether or not a test stops the factor: l holds what each cell is of s, the matrix at entry. Assumes nothing.
use mathlib.Core.Path.{◌≡◌, refl, sym, ap, ap₂, ◌∙◌}
use mathlib.Core.Logic.{⊎_elim}
use mathlib.Core.Bool.{true, false, cond}
use mathlib.Core.List.{List}
use Prim.Native.Nat.{ℕ, zero, suc, ◌+◌, ◌*◌, ◌≤◌, ◌<◌}
use native.Mathlib.Omega.{arith}
use lib.ListN.{length, get_or, set, length-set}
use lib.Seq.{get_or-set_same, get_or-set_other, ext_get_or}
use lib.Ieee.{Float, nan, binary64, div}
use lib.Ieee.Scale.{finite}
use Rattle.field.specs.Count.{upto}
use Rattle.field.proofs.Counting.{upto_zero, upto-ext}
use Rattle.sqrt.specs.Root.{root}
use Rattle.std.proofs.Common.{Ok, Err}
use Rattle.cholesky.specs.declared.Breakdown.TheVariants.{Pivot, Factor}
use Rattle.cholesky.specs.Cholesky.{run, entry, inner_step, remainder, factor_entry, pivot, factor_row, factor}
use Rattle.cholesky.specs.inner.Stages.{off, placed, left, Made, RowFinite, FactorCells, positive, Passed}
use Rattle.cholesky.proofs.Places.{place-below, place_is, places-apart, below_or_not, through}
use Rattle.cholesky.proofs.Fours.{SetEach, placed-is}
use Rattle.cholesky.proofs.Runs.{run_none, run_more, run-stops}
use Rattle.cholesky.proofs.Factored.{entry-step, pivot-step, row-stops, row_ends}

module _ (d : ℕ) where
  -- a stored entry, and the others
  pub entry-same : (A : List Float) (i c : ℕ) (x : Float) → length A ≡ d * d → i < d → c < d → entry d (set A (i * d + c) x) i c ≡ x
  entry-same A i c x h hi hc = let b = place-below d i c hi hc in get_or-set_same A (i * d + c) x nan (omega arith)

  pub entry_other : (A : List Float) (r m i c : ℕ) (x : Float) → ((i ≡ r) × (c ≡ m) → ⊥) → m < d → c < d → entry d (set A (r * d + m) x) i c ≡ entry d A i c
  entry_other A r m i c x h hm hc = get_or-set_other A (r * d + m) (i * d + c) x nan (places-apart d i c r m h hc hm)

module _ (d : ℕ) (s : List Float) where
  pub left-none : (l : List Float) (i c : ℕ) → entry d s i c ≡ left d s l i c 0
  left-none l i c = sym (upto_zero _ _)

  pub left-same : (l t : List Float) (i c k : ℕ) →
      ((o : ℕ) → o < k → entry d l i o ≡ entry d t i o) →
      ((o : ℕ) → o < k → entry d l c o ≡ entry d t c o) →
      left d s l i c k ≡ left d s t i c k
  left-same l t i c k f g = upto-ext (inner_step d l i c) (inner_step d t i c) k (entry d s i c) (λ o v h. ap₂ (off v) (f o h) (g o h))

  -- ---- such an l, column by column

  record Columns (n : ℕ) (l : List Float) : Type 0 where
    size : length l ≡ d * d
    quotients : (m c : ℕ) → c < n → c < m → m < d → entry d l m c ≡ div binary64 (left d s l m c c) (entry d l c c)
    roots : (m : ℕ) → m < n → m < d → entry d l m m ≡ root binary64 (left d s l m m m)

  -- column n, where those before it are made: the pivot, and the quotients below it
  abbrev pivot_of : ℕ → List Float → Float
  pivot_of n l = root binary64 (left d s l n n n)

  abbrev quotient_of : ℕ → List Float → ℕ → Float
  quotient_of n l i = div binary64 (left d s l i n n) (pivot_of n l)

  abbrev filled : ℕ → List Float → List Float
  filled n l = placed (λ i. i * d + n) (quotient_of n l) d l

  abbrev next : ℕ → List Float → List Float
  next n l = set (filled n l) (n * d + n) (pivot_of n l)

  module _ (n : ℕ) (l : List Float) (hl : length l ≡ d * d) (hn : n < d) where
    fills : SetEach (λ i. i * d + n) (quotient_of n l) d l (filled n l)
    fills = placed-is _ _ d l (λ i h. let b = place-below d i n h hn in omega arith) (λ o k b h. places-apart d o n k n (λ e. omega arith) hn hn)

    next-before : (i c : ℕ) → c < n → entry d (next n l) i c ≡ entry d l i c
    next-before i c hc =
        entry_other d (filled n l) n n i c (pivot_of n l) (λ q. omega arith) hn (omega arith)
        ∙ fills.rest (i * d + c) (λ k h. places-apart d i c k n (λ e. omega arith) (omega arith) hn)

    next-left : (i c k : ℕ) → k ≤ n → left d s l i c k ≡ left d s (next n l) i c k
    next-left i c k hk = left-same l (next n l) i c k (λ o h. sym (next-before i o (omega arith))) (λ o h. sym (next-before c o (omega arith)))

    next-quotient : (m : ℕ) → n < m → m < d → entry d (next n l) m n ≡ quotient_of n l m
    next-quotient m h hm = entry_other d (filled n l) n n m n (pivot_of n l) (λ q. omega arith) hn hn ∙ fills.own m hm

    next-pivot : entry d (next n l) n n ≡ pivot_of n l
    next-pivot = entry-same d (filled n l) n n (pivot_of n l) (fills.size ∙ hl) hn hn

  next-column : (n : ℕ) (l : List Float) → Columns n l → n < d → Columns (suc n) (next n l)
  next-column n l u hn =
      let hl = u.size in
      let t = next n l in
      let before = next-before n l hl hn in
      let same = next-left n l hl hn in
      record {
        size = length-set (filled n l) (n * d + n) (pivot_of n l) ∙ (fills n l hl hn).size ∙ hl;
        quotients = λ m c hc.
            through (λ (c : ℕ). c < m → m < d → entry d t m c ≡ div binary64 (left d s t m c c) (entry d t c c)) n
            (λ c b h hm. before m c b ∙ u.quotients m c b h hm ∙ ap₂ (div binary64) (same m c c (omega arith)) (sym (before c c b)))
            (λ h hm. next-quotient n l hl hn m h hm ∙ ap₂ (div binary64) (same m n n (omega arith)) (sym (next-pivot n l hl hn)))
            c (omega arith);
        roots = λ m h.
            through (λ (m : ℕ). m < d → entry d t m m ≡ root binary64 (left d s t m m m)) n
            (λ m b hm. before m m b ∙ u.roots m b hm ∙ ap (root binary64) (same m m m (omega arith)))
            (λ hm. next-pivot n l hl hn ∙ ap (root binary64) (same n n n (omega arith)))
            m (omega arith);
      }

  columns : (n : ℕ) → length s ≡ d * d → n ≤ d → (l : List Float) × Columns n l
  columns zero h k = (s, record { size = h; quotients = λ m c q. absurd (omega arith); roots = λ m q. absurd (omega arith) })
  columns (suc n) h k = let p = columns n h (omega arith) in (next n p.0, next-column n p.0 p.1 (omega arith))

  pub factor-cells : length s ≡ d * d → (l : List Float) × FactorCells d s l
  factor-cells h =
      let p = columns d h (omega arith) in
      (p.0, record { quotients = λ m c q r. p.1.quotients m c (omega arith) q r; roots = λ m q. p.1.roots m q q })

-- ---- the definition's run

module _ (d : ℕ) (s l : List Float) where
  pub fewer : (n k m o : ℕ) → Passed d s l n k → m ≤ n → o ≤ k → Passed d s l m o
  fewer n k m o p hm ho = record {
    entries = λ i c a b e. p.entries i c (omega arith) b (omega arith);
    pivots = λ i a b. p.pivots i (omega arith) (omega arith);
  }

  -- its matrix before the cell in row i and column k
  record RunAt (i k : ℕ) (C : List Float) : Type 0 where
    size : length C ≡ d * d
    above : Made d l C i
    own : (c : ℕ) → c < k → entry d C i c ≡ entry d l i c
    rest : (c : ℕ) → k ≤ c → c < d → entry d C i c ≡ entry d s i c
    below : (m c : ℕ) → i < m → c < d → entry d C m c ≡ entry d s m c
    upper : (m c : ℕ) → m < c → c < d → entry d C m c ≡ entry d s m c

  run-left : (i c : ℕ) (C : List Float) → RunAt i c C → c ≤ i → i < d → left d s l i c c ≡ remainder d C i c
  unfolding remainder
  run-left i c C r h hi =
      left-same d s l C i c c
      (λ o k. sym (r.own o k))
      (λ o k. through (λ (c : ℕ). o < c → entry d l c o ≡ entry d C c o) i (λ c b h. sym (r.above c o b (omega arith))) (λ h. sym (r.own o k)) c h k)
      ∙ ap (upto (inner_step d C i c) c) (sym (r.rest c (omega arith) (omega arith)))

  -- the matrix with one cell more: those of the row, and the others
  own-cell : (i c : ℕ) (C : List Float) → RunAt i c C → c ≤ i → i < d → (k : ℕ) → k ≤ c → entry d (set C (i * d + c) (entry d l i c)) i k ≡ entry d l i k
  own-cell i c C r h hi =
      through _ c
      (λ k b. entry_other d C i c i k (entry d l i c) (λ q. omega arith) (omega arith) (omega arith) ∙ r.own k b)
      (entry-same d C i c (entry d l i c) r.size hi (omega arith))

  module _ (i c : ℕ) (C : List Float) (r : RunAt i c C) (h : c ≤ i) (hi : i < d) where
    abbrev cell : Float
    cell = entry d l i c

    other : (m k : ℕ) → ((m ≡ i) × (k ≡ c) → ⊥) → k < d → entry d (set C (i * d + c) cell) m k ≡ entry d C m k
    other m k f hk = entry_other d C i c m k cell f (omega arith) hk

    run-cell : c < i → RunAt i (suc c) (set C (i * d + c) cell)
    run-cell b = record {
      size = length-set C (i * d + c) cell ∙ r.size;
      above = λ m k hm hk. other m k (λ q. omega arith) (omega arith) ∙ r.above m k hm hk;
      own = λ k hk. own-cell i c C r h hi k (omega arith);
      rest = λ k hk hd. other i k (λ q. omega arith) hd ∙ r.rest k (omega arith) hd;
      below = λ m k hm hk. other m k (λ q. omega arith) hk ∙ r.below m k hm hk;
      upper = λ m k hm hk. other m k (λ q. omega arith) hk ∙ r.upper m k hm hk;
    }

    run_row : c ≡ i → RunAt (suc i) 0 (set C (i * d + c) cell)
    run_row e = record {
      size = length-set C (i * d + c) cell ∙ r.size;
      above = λ m k hm.
          through (λ (m : ℕ). k ≤ m → entry d (set C (i * d + c) cell) m k ≡ entry d l m k) i
          (λ m b hk. other m k (λ q. omega arith) (omega arith) ∙ r.above m k b hk)
          (λ hk. own-cell i c C r h hi k (omega arith))
          m (omega arith);
      own = λ k hk. absurd (omega arith);
      rest = λ k hk hd. other (suc i) k (λ q. omega arith) hd ∙ r.below (suc i) k (omega arith) hd;
      below = λ m k hm hk. other m k (λ q. omega arith) hk ∙ r.below m k (omega arith) hk;
      upper = λ m k hm hk. other m k (λ q. omega arith) hk ∙ r.upper m k hm hk;
    }

  module _ (size : length s ≡ d * d) (law : FactorCells d s l) where
    run-entry : (i c : ℕ) (C : List Float) → RunAt i c C → c < i → i < d →
        factor_entry d i c C ≡ cond (finite (entry d l i c)) (Ok (set C (i * d + c) (entry d l i c))) (Err (Factor i))
    run-entry i c C r h hi =
        let e = law.quotients i c h hi in
        rw e (entry-step d i c C (left d s l i c c) (entry d l c c) _ (run-left i c C r (omega arith) hi) (sym (r.above c c h (omega arith))) refl)

    run-pivot : (i : ℕ) (C : List Float) → RunAt i i C → i < d →
        pivot d i C ≡ cond (positive d s l i) (Ok (set C (i * d + i) (entry d l i i))) (Err (Pivot i))
    run-pivot i C r hi = rw (law.roots i hi) (pivot-step d i C (left d s l i i i) _ (run-left i i C r (omega arith) hi) refl)

    -- a row's first k entries
    row-run : (i k : ℕ) (C : List Float) → RunAt i 0 C → k ≤ i → i < d → RowFinite d l i k → (B : List Float) × (run (factor_entry d i) k C ≡ Ok B) × RunAt i k B
    row-run i zero C r hk hi f = (C, run_none (factor_entry d i) C, r)
    row-run i (suc k) C r hk hi f =
        let p = row-run i k C r (omega arith) hi (λ c h. f c (omega arith)) in
        let e = run-entry i k p.0 p.2 (omega arith) hi in (
          set p.0 (i * d + k) (entry d l i k),
          run_more (factor_entry d i) k C p.0 p.1 ∙ rw (f k (omega arith)) at e,
          run-cell i k p.0 p.2 (omega arith) hi (omega arith),
        )

    -- a whole row
    whole : (i : ℕ) (C : List Float) → RunAt i 0 C → i < d → RowFinite d l i i → positive d s l i ≡ true → (B : List Float) × (factor_row d i C ≡ Ok B) × RunAt (suc i) 0 B
    whole i C r hi f g =
        let p = row-run i i C r (omega arith) hi f in
        let e = run-pivot i p.0 p.2 hi in (
          set p.0 (i * d + i) (entry d l i i),
          row_ends d i C p.0 p.1 ∙ rw g at e,
          run_row i i p.0 p.2 (omega arith) hi refl,
        )

    rows_run : (n : ℕ) → Passed d s l n n → n ≤ d → (C : List Float) × (run (factor_row d) n s ≡ Ok C) × RunAt n 0 C
    rows_run zero h k = (
      s,
      run_none (factor_row d) s,
      record {
        size = size;
        above = λ m c q. absurd (omega arith);
        own = λ c q. absurd (omega arith);
        rest = λ c q z. refl;
        below = λ m c q z. refl;
        upper = λ m c q z. refl;
      },
    )
    rows_run (suc n) h k =
        let p = rows_run n (fewer (suc n) (suc n) n n h (omega arith) (omega arith)) (omega arith) in
        let q = whole n p.0 p.2 (omega arith) (λ c e. h.entries n c (omega arith) e (omega arith)) (h.pivots n (omega arith) (omega arith)) in
        (q.0, run_more (factor_row d) n s p.0 p.1 ∙ q.1, q.2)

    -- the answers: an entry that is not finite, a pivot that is not finite or not above 0, and none of these
    pub stops-at-entry : (i c : ℕ) → Passed d s l i i → i < d → c < i → RowFinite d l i c → finite (entry d l i c) ≡ false → Err (Factor i) ≡ factor d s
    unfolding factor
    stops-at-entry i c h hi hc f t =
        let p = rows_run i h (omega arith) in
        let q = row-run i c p.0 p.2 (omega arith) hi f in
        let e = run-entry i c q.0 q.2 hc hi in
        sym (run-stops (factor_row d) i d s p.0 (Factor i) p.1 (row-stops d i c p.0 q.0 (Factor i) q.1 (rw t at e) hc) hi)

    pub stops-at-pivot : (i : ℕ) → Passed d s l i i → i < d → RowFinite d l i i → positive d s l i ≡ false → Err (Pivot i) ≡ factor d s
    unfolding factor
    stops-at-pivot i h hi f t =
        let p = rows_run i h (omega arith) in
        let q = row-run i i p.0 p.2 (omega arith) hi f in
        let e = run-pivot i q.0 q.2 hi in
        sym (run-stops (factor_row d) i d s p.0 (Pivot i) p.1 (row_ends d i p.0 q.0 q.1 ∙ rw t at e) hi)

    pub ends : (B : List Float) → Passed d s l d d → length B ≡ d * d → Made d l B d → ((m c : ℕ) → m < c → c < d → entry d B m c ≡ entry d s m c) → Ok B ≡ factor d s
    unfolding factor
    ends B h hB f g =
        let p = rows_run d h (omega arith) in
        let same : (m c : ℕ) → m < d → c < d → entry d B m c ≡ entry d p.0 m c =
        λ m c hm hc.
        ⊎_elim
        (λ (b : m < c). g m c b hc ∙ sym (p.2.upper m c b hc))
        (λ (b : c ≤ m). f m c hm b ∙ sym (p.2.above m c hm b))
        (below_or_not m c) in
        let cells : (k : ℕ) → k < length B → get_or B k nan ≡ get_or p.0 k nan =
        λ k hk. let q = place_is d d k (omega arith) in rw q.4 (same q.0 q.1 q.2 q.3) in
        ap Ok (ext_get_or nan B p.0 (hB ∙ sym p.2.size) cells) ∙ sym p.1
