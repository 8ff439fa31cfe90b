-- Cholesky's factor L of a matrix A = L Lᵀ, and the solution of L Lᵀ x = b (Golub and Van Loan, Matrix Computations, 'Cholesky factorization',
-- 'Triangular systems'), with the order of operations of `cholesky_factor_in_place` and `cholesky_solve_in_place`.
-- The matrix is d × d, row by row in a list; only its lower triangle is read. A breakdown is document 01's refusal 15 at a pivot,
-- 16 at a factor entry and 17 at a number of the solution.
use Rattle.std.specs.Prelude.{ℕ, zero, suc, ◌+◌, ◌-◌, ◌*◌, ◌≡◌, List, cond, ◌&&◌, get_or, set, take, Float, Result, Ok, Err}
use Rattle.std.specs.Float.{nan, binary64}
use Rattle.std.specs.Float.Ieee.{sub, mul, div, lt}
use Rattle.std.specs.Float.Ieee.Scale.{finite}
use Rattle.field.specs.declared.Vec3.{Vec3}
use Rattle.field.specs.Vec.{null, at, is_finite, minus, scale, over}
use Rattle.field.specs.Count.{upto}
use Rattle.field.specs.Buffer.{load, vector}
use Rattle.sqrt.specs.Root.{root}
use Rattle.cholesky.specs.declared.Breakdown.{Breakdown}
use Rattle.cholesky.specs.declared.Breakdown.TheVariants.{Pivot, Factor, Solution}

-- a step, unless the run has broken down before
abbrev pub then : {A B : Type 0} → Result A Breakdown → (A → Result B Breakdown) → Result B Breakdown
then (Ok x) f = f x
then (Err b) f = Err b

-- steps 0, 1, .. n - 1 in order, up to the first that breaks down
unfoldable pub run : {A : Type 0} → (ℕ → A → Result A Breakdown) → ℕ → A → Result A Breakdown
run f zero s = Ok s
run f (suc n) s = then (run f n s) (f n)

-- what a function's answer, and the value that it leaves, say
abbrev pub ended : {A : Type 0} → Result (Unit {0}) Breakdown → A → Result A Breakdown
ended (Ok u) x = Ok x
ended (Err b) x = Err b

-- the entry in row i and column j of a matrix with d columns
abbrev pub entry : ℕ → List Float → ℕ → ℕ → Float
entry d A i j = get_or A (i * d + j) nan

module _ (d : ℕ) where
  -- ---- the factor, in the matrix's place

  -- a_ij - l_i0 l_j0 - .. - l_i,j-1 l_j,j-1
  abbrev pub inner_step : List Float → ℕ → ℕ → ℕ → Float → Float
  inner_step A i j k v = sub binary64 v (mul binary64 (entry d A i k) (entry d A j k))

  unfoldable pub remainder : List Float → ℕ → ℕ → Float
  remainder A i j = upto (inner_step A i j) j (entry d A i j)

  -- l_ij is the remainder over l_jj, where that is finite
  unfoldable pub factor_entry : ℕ → ℕ → List Float → Result (List Float) Breakdown
  factor_entry i j A = let x = div binary64 (remainder A i j) (entry d A j j) in cond (finite x) (Ok (set A (i * d + j) x)) (Err (Factor i))

  -- l_ii is the root of the remainder, the pivot, where that is finite and above 0
  unfoldable pub pivot : ℕ → List Float → Result (List Float) Breakdown
  pivot i A = let v = remainder A i i in cond (finite v && lt null v) (Ok (set A (i * d + i) (root binary64 v))) (Err (Pivot i))

  -- row by row, and column by column within a row, its pivot last
  unfoldable pub factor_row : ℕ → List Float → Result (List Float) Breakdown
  factor_row i A = then (run (factor_entry i) i A) (pivot i)

  -- the kernel's `cholesky_factor_in_place`
  unfoldable pub factor : List Float → Result (List Float) Breakdown
  factor A = run factor_row d A

  -- ---- the solution, in the right side's place, three right sides at once

  -- forward: y_i = (b_i - l_i0 y_0 - .. - l_i,i-1 y_i-1) / l_ii
  abbrev pub forward_step : List Float → List Vec3 → ℕ → ℕ → Vec3 → Vec3
  forward_step L y i k v = minus v (scale (at y k) (entry d L i k))

  unfoldable pub forward_vector : List Float → List Vec3 → ℕ → Vec3
  forward_vector L y i = over (upto (forward_step L y i) i (at y i)) (entry d L i i)

  abbrev pub forward_row : List Float → ℕ → List Vec3 → List Vec3
  forward_row L i y = set y i (forward_vector L y i)

  unfoldable pub forward : List Float → List Vec3 → List Vec3
  forward L b = upto (forward_row L) d b

  -- back, from the last row up: x_i = (y_i - l_i+1,i x_i+1 - .. - l_d-1,i x_d-1) / l_ii, where that is finite
  abbrev pub back_step : List Float → List Vec3 → ℕ → ℕ → Vec3 → Vec3
  back_step L x i k v = minus v (scale (at x (suc i + k)) (entry d L (suc i + k) i))

  unfoldable pub back_vector : List Float → List Vec3 → ℕ → Vec3
  back_vector L x i = over (upto (back_step L x i) (d - suc i) (at x i)) (entry d L i i)

  unfoldable pub back_row : List Float → ℕ → List Vec3 → Result (List Vec3) Breakdown
  back_row L i x = let v = back_vector L x i in cond (is_finite v) (Ok (set x i v)) (Err (Solution i))

  abbrev pub back_turn : List Float → ℕ → List Vec3 → Result (List Vec3) Breakdown
  back_turn L t x = back_row L (d - suc t) x

  unfoldable pub back : List Float → List Vec3 → Result (List Vec3) Breakdown
  back L y = run (back_turn L) d y

  -- the solution of L Lᵀ x = b, the kernel's `cholesky_solve_in_place`
  unfoldable pub substitution : List Vec3 → List Float → Result (List Vec3) Breakdown
  substitution b L = back L (forward L b)

  -- the solution of A x = b
  unfoldable pub solution : List Float → List Vec3 → Result (List Vec3) Breakdown
  solution A b = then (factor A) (substitution b)

-- A substitution in a buffer that holds a factor of d rows and then its right side: l is the buffer before, l' after, r the answer.
pub record Substituted (d : ℕ) (l l' : List Float) (r : Result (Unit {0}) Breakdown) (x : Result (List Vec3) Breakdown) : Type 0 where
  pub answer : ended r (load vector l' (d * d) d) ≡ x
  pub factor : take (d * d) l' ≡ take (d * d) l
