-- Inner vocabulary of the factor: its stages as the code makes them, four columns at a time. No entry point's contract names it.
-- s is the matrix at entry, A and B the matrix before and after a stage; l has what the factor's cells are when no test stops it.
use Rattle.std.specs.Prelude.{ℕ, zero, suc, ◌+◌, ◌*◌, ◌≤◌, ◌<◌, ◌≡◌, List, Bool, true, cond, ◌&&◌, length, get_or, set, Float, Result, Ok, Err}
use Rattle.std.specs.Float.{nan, binary64}
use Rattle.std.specs.Float.Ieee.{sub, mul, div, lt}
use Rattle.std.specs.Float.Ieee.Scale.{finite}
use Rattle.field.specs.Vec.{null}
use Rattle.field.specs.Count.{upto}
use Rattle.sqrt.specs.Root.{root}
use Rattle.cholesky.specs.declared.Four.{Four}
use Rattle.cholesky.specs.declared.Breakdown.{Breakdown}
use Rattle.cholesky.specs.declared.Breakdown.TheVariants.{Factor}
use Rattle.cholesky.specs.Cholesky.{ended, entry, inner_step, factor}

-- ---- four neighbouring columns

-- the number in column k of the four
abbrev pub lane : ℕ → Four → Float
lane zero x = x.first
lane (suc zero) x = x.second
lane (suc (suc zero)) x = x.third
lane (suc (suc (suc k))) x = x.fourth

-- the four numbers g 0 to g 3
abbrev pub lanes : (ℕ → Float) → Four
lanes g = record { first = g 0; second = g 1; third = g 2; fourth = g 3 }

-- each of p 0 to p (n - 1)
unfoldable pub all : (ℕ → Bool) → ℕ → Bool
all p zero = true
all p (suc n) = all p n && p n

-- all four are finite
unfoldable pub finite4 : Four → Bool
finite4 x = all (λ k. finite (lane k x)) 4

-- v with a product taken off
abbrev pub off : Float → Float → Float → Float
off v x y = sub binary64 v (mul binary64 x y)

-- v with four products taken off, first to last
unfoldable pub taken : Float → Four → Four → Float
taken v x y = upto (λ k u. off u (lane k x) (lane k y)) 4 v

-- A with the number g k at the place q k, for each k below n
unfoldable pub placed : (ℕ → ℕ) → (ℕ → Float) → ℕ → List Float → List Float
placed q g n A = upto (λ k B. set B (q k) (g k)) n A

-- place t of four columns that are packed in p one after the other, 256 numbers each
unfoldable pub packed : List Float → ℕ → Four
packed p t = lanes (λ k. get_or p (256 * k + t) nan)

-- p with x at that place
unfoldable pub packed_with : List Float → ℕ → Four → List Float
packed_with p t x = placed (λ k. 256 * k + t) (λ k. lane k x) 4 p

module _ (d : ℕ) where
  -- the entries in the columns j to j + 3 of row i
  unfoldable pub four : List Float → ℕ → ℕ → Four
  four A i j = lanes (λ k. entry d A i (j + k))

  -- A with x in their place
  unfoldable pub stored : List Float → ℕ → ℕ → Four → List Float
  stored A i j x = placed (λ k. i * d + (j + k)) (λ k. lane k x) 4 A

  -- x are a row's quotients in the columns j to j + 3: v has what the first j products leave, A the pivots' rows
  pub record Solves (A : List Float) (j : ℕ) (v x : Four) : Type 0 where
    pub quotients : (k : ℕ) → k < 4 →
        lane k x ≡ div binary64 (upto (λ o u. off u (lane o x) (entry d A (j + k) (j + o))) k (lane k v)) (entry d A (j + k) (j + k))

  -- B is A but for the cells with the property P
  abbrev pub Outside : (ℕ → ℕ → Type 0) → List Float → List Float → Type 0
  Outside P A B = (m c : ℕ) → (P m c → ⊥) → c < d → entry d B m c ≡ entry d A m c

  -- ---- the products of the columns j to j + 3, taken off what stands to the right of them

  -- p has these columns of the n rows from `from` on
  pub record Packed (A : List Float) (j from n : ℕ) (p : List Float) : Type 0 where
    pub rows : (t : ℕ) → t < n → packed p t ≡ four A (from + t) j

  -- place t of row i, updated: x is the row's four, p the packed columns
  abbrev pub new_cell : List Float → List Float → ℕ → ℕ → ℕ → Four → Float
  new_cell A p i from t x = taken (entry d A i (from + t)) x (packed p t)

  -- A with it in its place
  unfoldable pub with_cell : List Float → List Float → ℕ → ℕ → ℕ → Four → List Float
  with_cell A p i from t x = set A (i * d + (from + t)) (new_cell A p i from t x)

  -- n entries of row i from column `from` on
  pub record RowUpdated (A B : List Float) (i from n : ℕ) (x : Four) (p : List Float) : Type 0 where
    pub size : length B ≡ length A
    pub cells : (t : ℕ) → t < n → entry d B i (from + t) ≡ new_cell A p i from t x
    pub rest : Outside (λ (m c : ℕ). (m ≡ i) × (from ≤ c) × (c < from + n)) A B

  -- w entries of row i, which gives `upper`, and then v entries of row i + 1: x and y are the rows' fours
  pub record PairUpdated (A B : List Float) (i from w v : ℕ) (x y : Four) (p : List Float) : Type 0 where
    pub upper : List Float
    pub first : RowUpdated A upper i from w x p
    pub second : RowUpdated upper B (i + 1) from v y p

  -- the columns `from` to k - 1 of the rows before `rows`, in the lower triangle
  pub record Updated (A B : List Float) (j from k rows : ℕ) : Type 0 where
    pub cells : (m c : ℕ) → from ≤ c → c < k → c ≤ m → m < rows →
        entry d B m c ≡ taken (entry d A m c) (four A m j) (four A c j)
    pub rest : Outside (λ (m c : ℕ). (from ≤ c) × (c < k) × (c ≤ m) × (m < rows)) A B

  -- n columns, packed in p: if A has them updated in the rows before i, B has in the rows before k
  pub record RowsUpdated (A B : List Float) (j from n i k : ℕ) (p : List Float) : Type 0 where
    pub rows : (s : List Float) → Packed s j from n p → Updated s A j from (from + n) i → Updated s B j from (from + n) k

  -- ---- the factor's cells as numbers

  -- u with the first k products l_i0 l_c0, l_i1 l_c1, .. taken off
  abbrev pub reduced : List Float → ℕ → ℕ → ℕ → Float → Float
  reduced l i c k u = upto (inner_step d l i c) k u

  -- what these products leave of the entry in row i and column c
  abbrev pub left : List Float → List Float → ℕ → ℕ → ℕ → Float
  left s l i c k = reduced l i c k (entry d s i c)

  -- v is what the first k products leave of u, where the first `from` leave the entry in row i and column c
  pub record Reduces (A : List Float) (i c from k : ℕ) (v : Float) : Type 0 where
    pub value : (u : Float) → entry d A i c ≡ reduced A i c from u → v ≡ reduced A i c k u

  -- r and B are what the step f makes of A with the cell in row i and column c as it was before its first k products were taken off
  pub record Continues (f : List Float → Result (List Float) Breakdown) (A : List Float) (i c k : ℕ) (r : Result (Unit {0}) Breakdown) (B : List Float) : Type 0 where
    pub answer : (u : Float) → entry d A i c ≡ reduced A i c k u → ended r B ≡ f (set A (i * d + c) u)

  -- the rows before n are l's
  abbrev pub Made : List Float → List Float → ℕ → Type 0
  Made l A n = (m c : ℕ) → m < n → c ≤ m → entry d A m c ≡ entry d l m c

  -- no test stops the entries of row i before column k
  abbrev pub RowFinite : List Float → ℕ → ℕ → Type 0
  RowFinite l i k = (c : ℕ) → c < k → finite (entry d l i c) ≡ true

  -- a breakdown that r tells is the factor's
  abbrev pub Refuses : {A : Type 0} → List Float → Result A Breakdown → Type 0
  Refuses s r = (b : Breakdown) → r ≡ Err b → Err b ≡ factor d s

-- l's cells are what the factor of s has, whether or not a test stops it
pub record FactorCells (d : ℕ) (s l : List Float) : Type 0 where
  pub quotients : (m c : ℕ) → c < m → m < d → entry d l m c ≡ div binary64 (left d s l m c c) (entry d l c c)
  pub roots : (m : ℕ) → m < d → entry d l m m ≡ root binary64 (left d s l m m m)

module _ (d : ℕ) (s l : List Float) where
  -- the test of row m's pivot
  abbrev pub positive : ℕ → Bool
  positive m = finite (left d s l m m m) && lt null (left d s l m m m)

  -- no test stops the cells of the rows before n in the columns before k
  pub record Passed (n k : ℕ) : Type 0 where
    pub entries : (m c : ℕ) → m < n → c < m → c < k → finite (entry d l m c) ≡ true
    pub pivots : (m : ℕ) → m < n → m < k → positive m ≡ true

  -- the rows before n are l's in the columns before k, and further right what k products leave
  pub record Partial (A : List Float) (n k : ℕ) : Type 0 where
    pub made : (m c : ℕ) → m < n → c ≤ m → c < k → entry d A m c ≡ entry d l m c
    pub rest : (m c : ℕ) → m < n → c ≤ m → k ≤ c → entry d A m c ≡ left d s l m c k

  -- ---- row i, from column `from` on

  -- given: the rows above are made, and its own entries before that column; the others have what `from` products leave
  pub record RowReady (A : List Float) (i from : ℕ) : Type 0 where
    pub size : length s ≡ d * d
    pub law : FactorCells d s l
    pub passed : Passed i i
    pub entries : RowFinite d l i from
    pub above : Made d l A i
    pub made : (c : ℕ) → c < from → entry d A i c ≡ entry d l i c
    pub rest : (c : ℕ) → from ≤ c → c ≤ i → entry d A i c ≡ left d s l i c from

  -- B is A with the row made, and no test stops it
  pub record RowDone (A B : List Float) (i : ℕ) : Type 0 where
    pub made : (c : ℕ) → c ≤ i → entry d B i c ≡ entry d l i c
    pub entries : RowFinite d l i i
    pub pivot : positive i ≡ true
    pub rest : Outside d (λ (m c : ℕ). (m ≡ i) × (c ≤ i)) A B

  -- what the answer r says
  pub record RowEnds (r : Result (Unit {0}) Breakdown) (A B : List Float) (i : ℕ) : Type 0 where
    pub done : r ≡ Ok tt → RowDone A B i
    pub stops : Refuses d s r

  -- ---- the rows `from` to `to` - 1, from column `from` on

  -- given: all entries before that column are made; the others have what `from` products leave
  pub record RowsReady (A : List Float) (from to : ℕ) : Type 0 where
    pub size : length s ≡ d * d
    pub law : FactorCells d s l
    pub passed : Passed to from
    pub partial : Partial A to from

  -- B is A with the rows before i made, and no test stops them
  pub record RowsDone (A B : List Float) (i : ℕ) : Type 0 where
    pub made : Made d l B i
    pub passed : Passed i i
    pub rest : Outside d (λ (m c : ℕ). (m < i) × (c ≤ m)) A B

  -- what the answer r says
  pub record RowsEnd (r : Result (Unit {0}) Breakdown) (A B : List Float) (to : ℕ) : Type 0 where
    pub done : r ≡ Ok tt → RowsDone A B to
    pub stops : Refuses d s r

  -- ---- the panel: the columns j to j + 3 of the rows below their pivots

  -- given: the pivots' rows are made; the rows below have what j products leave
  pub record PanelReady (A : List Float) (j rows : ℕ) : Type 0 where
    pub size : length s ≡ d * d
    pub law : FactorCells d s l
    pub passed : Passed rows j
    pub pivots : Made d l A (j + 4)
    pub below : (m c : ℕ) → j + 4 ≤ m → m < rows → j ≤ c → c < j + 4 → entry d A m c ≡ left d s l m c j

  -- it is l's in the rows before i, and no test stops them
  abbrev pub PanelMade : List Float → ℕ → ℕ → Type 0
  PanelMade B j i =
      (m c : ℕ) → j + 4 ≤ m → m < i → j ≤ c → c < j + 4 →
      (entry d B m c ≡ entry d l m c) × (finite (entry d l m c) ≡ true)

  -- row r is refused unless a row above it is
  abbrev pub Refused : ℕ → Type 0
  Refused r = Passed r r → Err (Factor r) ≡ factor d s

  -- what the answer r, the first row that is not made, says
  pub record PanelEnds (B : List Float) (j rows r : ℕ) : Type 0 where
    pub made : PanelMade B j r
    pub refused : r < rows → Refused r

-- ---- the contracts of the inner functions

module _ (d : ℕ) where
  -- finish_row
  pub record RowFinished (A B : List Float) (i from : ℕ) (r : Result (Unit {0}) Breakdown) : Type 0 where
    pub ends : (s l : List Float) → RowReady d s l A i from → RowEnds d s l r A B i

  -- finish_rows
  pub record RowsFinished (A B : List Float) (from to : ℕ) (r : Result (Unit {0}) Breakdown) : Type 0 where
    pub ends : (s l : List Float) → RowsReady d s l A from to → RowsEnd d s l r A B to

  -- panel_row: x are row i's quotients, stored if they are finite
  pub record RowSolved (A B : List Float) (i j : ℕ) (b : Bool) : Type 0 where
    pub x : Four
    pub solves : Solves d A j (four d A i j) x
    pub test : b ≡ finite4 x
    pub result : B ≡ cond b (stored d A i j x) A

  -- B is A but for the panel's rows before i
  abbrev pub OutsidePanel : List Float → List Float → ℕ → ℕ → Type 0
  OutsidePanel A B j i = Outside d (λ (m c : ℕ). (j + 4 ≤ m) × (m < i) × (j ≤ c) × (c < j + 4)) A B

  -- panel: r is the first row that is not made
  pub record PanelSolved (A B : List Float) (j rows r : ℕ) : Type 0 where
    pub low : j + 4 ≤ r
    pub high : r ≤ rows
    pub ends : (s l : List Float) → PanelReady d s l A j rows → PanelEnds d s l B j rows r
    pub rest : OutsidePanel A B j r

  -- eliminate: the panel, which gives `solved`, and the update of its rows
  pub record Eliminated (A B : List Float) (j rows r : ℕ) : Type 0 where
    pub low : j + 4 ≤ r
    pub high : r ≤ rows
    pub solved : List Float
    pub panel : PanelSolved A solved j rows r
    pub update : Updated d solved B j (j + 4) r r

  -- B is s with the columns before j made in the rows before `rows`, and their products taken off there; row `rows` is refused unless one above it is
  pub record Stage (s l B : List Float) (rows j : ℕ) : Type 0 where
    pub passed : Passed d s l rows j
    pub partial : Partial d s l B rows j
    pub refused : rows < d → Refused d s l rows
    pub above : (m c : ℕ) → m < c → c < d → entry d B m c ≡ entry d s m c

  -- so for every l that has the factor's cells
  pub record Reached (s B : List Float) (rows j : ℕ) : Type 0 where
    pub stage : (l : List Float) → FactorCells d s l → Stage s l B rows j

  -- four_columns: n, if r gives it, is the first row that is not made
  pub record ColumnsEnd (A B : List Float) (j rows : ℕ) (r : Result ℕ Breakdown) : Type 0 where
    pub low : (n : ℕ) → r ≡ Ok n → j + 4 ≤ n
    pub high : (n : ℕ) → r ≡ Ok n → n ≤ rows
    pub done : (s : List Float) → length s ≡ d * d → Reached s A rows j → (n : ℕ) → r ≡ Ok n → Reached s B n (j + 4)
    pub stops : (s : List Float) → length s ≡ d * d → Reached s A rows j → Refuses d s r

  -- last_rows
  pub record Finishes (A B : List Float) (rows j : ℕ) (r : Result (Unit {0}) Breakdown) : Type 0 where
    pub answer : (s : List Float) → length s ≡ d * d → Reached s A rows j → ended r B ≡ factor d s
