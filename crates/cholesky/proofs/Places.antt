-- The places of a matrix's entries. Assumes nothing.
use mathlib.Core.Path.{◌≡◌, sym, subst}
use mathlib.Core.Logic.{◌≢◌, ◌⊎◌, inl, inr, ⊎_elim}
use Prim.Native.Nat.{ℕ, zero, suc, ◌+◌, ◌-◌, ◌*◌, ◌≤◌, ◌<◌}
use native.Mathlib.Nat.{suc-mul, zero-mul, mul-le-mul_right, eq-or-lt_of_le}
use native.Mathlib.Decide.{dec_lt, ℕ_discrete}
use native.Mathlib.Omega.{arith}

-- the entry in row i and column j lies in the list: a place of a matrix of d rows and columns
pub place-below : (d i j : ℕ) → i < d → j < d → i * d + j < d * d
place-below d i j h k =
    let e : suc i * d ≤ d * d = mul-le-mul_right d h in
    let f : suc i * d ≡ i * d + d = suc-mul i d in
    omega arith

-- an entry of a row stands before each of a later row
row_below : (d i j k : ℕ) → j < i → k < d → j * d + k < i * d
row_below d i j k h l =
    let e : suc j * d ≤ i * d = mul-le-mul_right d h in
    let f : suc j * d ≡ j * d + d = suc-mul j d in
    omega arith

-- entries of different rows have different places
rows_apart : (d i j m k : ℕ) → i ≢ m → j < d → k < d → i * d + j ≢ m * d + k
rows_apart d i j m k h hj hk e = go (dec_lt i m)
  where
    go : Dec (i < m) → ⊥
    go (yes l) = let b : i * d + j < m * d = row_below d m i j l hj in omega arith
    go (no n) =
        let l : m < i = omega arith in
        let b : m * d + k < i * d = row_below d i m k l hk in
        omega arith

-- two places are one only where row and column are
pub places-apart : (d i j m k : ℕ) → ((i ≡ m) × (j ≡ k) → ⊥) → j < d → k < d → i * d + j ≢ m * d + k
places-apart d i j m k h hj hk e = go (ℕ_discrete i m)
  where
    go : Dec (i ≡ m) → ⊥
    go (yes q) = h (q, let z : i * d ≡ m * d = rw q in omega arith)
    go (no n) = rows_apart d i j m k n hj hk e

-- each place of n rows is that of an entry
pub place_is : (d n p : ℕ) → p < n * d → (i : ℕ) × (c : ℕ) × (i < n) × (c < d) × (p ≡ i * d + c)
place_is d zero p h = let z : 0 * d ≡ 0 = zero-mul d in absurd (omega arith)
place_is d (suc n) p h = go (λ l. place_is d n p l) (dec_lt p (n * d))
  where
    go : (p < n * d → (i : ℕ) × (c : ℕ) × (i < n) × (c < d) × (p ≡ i * d + c)) → Dec (p < n * d) → (i : ℕ) × (c : ℕ) × (i < suc n) × (c < d) × (p ≡ i * d + c)
    go f (yes l) = let q = f l in (q.0, q.1, omega arith, q.3, q.4)
    go f (no l) = let e : suc n * d ≡ n * d + d = suc-mul n d in (n, p - n * d, omega arith, omega arith, omega arith)

-- a cell is another or not
pub same_or_not : (i j m k : ℕ) → ((i ≡ m) × (j ≡ k)) ⊎ ((i ≡ m) × (j ≡ k) → ⊥)
same_or_not i j m k = go (ℕ_discrete i m) (ℕ_discrete j k)
  where
    go : Dec (i ≡ m) → Dec (j ≡ k) → ((i ≡ m) × (j ≡ k)) ⊎ ((i ≡ m) × (j ≡ k) → ⊥)
    go (yes p) (yes q) = inl (p, q)
    go (no p) _ = inr (λ e. p e.0)
    go (yes _) (no q) = inr (λ e. q e.1)

-- a number is below another or not
pub below_or_not : (m c : ℕ) → (m < c) ⊎ (c ≤ m)
below_or_not m c = go (dec_lt m c)
  where
    go : Dec (m < c) → (m < c) ⊎ (c ≤ m)
    go (yes h) = inl h
    go (no h) = inr (omega arith)

-- what holds below i and at i holds up to i
pub through : (P : ℕ → Type 0) (i : ℕ) → ((k : ℕ) → k < i → P k) → P i → (k : ℕ) → k ≤ i → P k
through P i before here k h = ⊎_elim (λ e. subst P (sym e) here) (λ b. before k b) (eq-or-lt_of_le h)
