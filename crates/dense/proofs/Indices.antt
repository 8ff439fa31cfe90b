-- Laws of rows. Assumes nothing.
use mathlib.Core.Path.{◌≡◌, refl, subst, ◌∙◌}
use mathlib.Core.Logic.{◌⊎◌, inl, inr, ⊎_elim}
use mathlib.Core.Bool.{Bool, true, false, cond}
use Prim.Native.Nat.{ℕ, suc, ◌+◌, ◌-◌, ◌≤◌, ◌<◌}
use native.Mathlib.Omega.{arith}
use borrow.Author.Tests.{eq-eqb, ne_eqb, lt-ltb, le-ltb, ltb-true, ltb-false}
use lib.Dec.{ltb}
use Rattle.std.proofs.Common.{Option, Some, None}
use Rattle.network.specs.declared.Shape.{Shape}
use Rattle.dense.specs.declared.rows.DenseRow.{DenseRow}
use Rattle.dense.specs.declared.rows.DenseSystem.{DenseSystem}
use Rattle.dense.specs.Rows.{dense_row, camera_of}
use Rattle.dense.specs.inner.Held.{RowWithin, SystemRoom}

-- ---- rows

order : (c a : ℕ) → (c < a) ⊎ ((c ≡ a) ⊎ (a < c))
order c a = go (ltb c a) (ltb a c) refl refl
  where
    go : (p q : Bool) → ltb c a ≡ p → ltb a c ≡ q → (c < a) ⊎ ((c ≡ a) ⊎ (a < c))
    go true q e f = inl (ltb-true c a e)
    go false true e f = inr (inr (ltb-true a c f))
    go false false e f = inr (inl (omega (arith, ltb-false c a e, ltb-false a c f)))

pub row_below : (c a : ℕ) → (c ≡ a → ⊥) → c < a → Some (record { 0 = c }) ≡ dense_row c a
unfolding dense_row
row_below c a n h = simp (ne_eqb c a n, lt-ltb c a h)

pub row-anchor : (c a : ℕ) → c ≡ a → None ≡ dense_row c a
unfolding dense_row
row-anchor c a e = simp (eq-eqb c a e)

pub row-above : (c a : ℕ) → (c ≡ a → ⊥) → a ≤ c → Some (record { 0 = c - 1 }) ≡ dense_row c a
unfolding dense_row
row-above c a n h = simp (ne_eqb c a n, le-ltb c a h)

row_within : (d c a : ℕ) → c < d + 1 → a < d + 1 → RowWithin d (dense_row c a)
row_within d c a h k =
    ⊎_elim
    (λ (b : c < a). rw (← row_below c a (λ e. omega arith) b) (omega arith))
    (⊎_elim (λ (b : c ≡ a). rw (← row-anchor c a b) tt) (λ (b : a < c). rw (← row-above c a (λ e. omega arith) (omega arith)) (omega arith)))
    (order c a)

-- a camera's row is one of the d = n - 1 rows
pub within-row : (d n c a : ℕ) (r : Option DenseRow) → r ≡ dense_row c a → d + 1 ≡ n → c < n → a < n → RowWithin d r
within-row d n c a r e z h k = rw e (row_within d c a (omega arith) (omega arith))

pub within-dense : (d : ℕ) (r : Option DenseRow) (p : DenseRow) → RowWithin d r → r ≡ Some p → p.0 < d
within-dense d r p w e = subst (RowWithin d) e w

pub row-inside : (d n c a : ℕ) (r : Option DenseRow) (p : DenseRow) → r ≡ dense_row c a → r ≡ Some p → d + 1 ≡ n → c < n → a < n → p.0 < d
row-inside d n c a r p e f z h k = within-dense d r p (within-row d n c a r e z h k) f

-- ---- a system of a shape that was read elsewhere

pub own-room : (s : Shape) (m : DenseSystem) (n : ℕ) → SystemRoom s m n → SystemRoom m.shape m n
own-room s m n h =
    record { shape = refl; sound = rw h.shape h.sound; anchor = rw h.shape h.anchor; dimension = h.dimension ∙ rw h.shape refl; room = rw h.shape h.room }

pub own-camera : (s : Shape) (m : DenseSystem) (n i : ℕ) → SystemRoom s m n → i < s.cameras → i < m.shape.cameras
own-camera s m n i h b = rw h.shape b

-- how many rows the cameras below c have
unfoldable pub rows_below : ℕ → ℕ → ℕ
rows_below a c = cond (ltb a c) (c - 1) c

pub rows_none : (a : ℕ) → rows_below a 0 ≡ 0
unfolding rows_below
rows_none a = simp (le-ltb a 0 (omega arith))

pub rows_all : (a d : ℕ) → a < d + 1 → rows_below a (d + 1) ≡ d
unfolding rows_below
rows_all a d h = simp (lt-ltb a (d + 1) h) (omega arith)

-- what camera c adds to them: nothing where it is the anchor, and else the next row, whose camera it is
pub record Next (a c : ℕ) (p : DenseRow) : Type 0 where
  pub row : p.0 ≡ rows_below a c
  pub more : rows_below a (c + 1) ≡ suc (rows_below a c)
  pub camera : camera_of p.0 a ≡ c

abbrev Count : ℕ → ℕ → Option DenseRow → Type 0
Count a c None = rows_below a (c + 1) ≡ rows_below a c
Count a c (Some p) = Next a c p

next-below : (a c : ℕ) → c < a → Next a c (record { 0 = c })
unfolding camera_of rows_below
next-below a c h = record {
  row = simp (le-ltb a c (omega arith));
  more = simp (le-ltb a c (omega arith), le-ltb a (c + 1) (omega arith)) (omega arith);
  camera = simp (lt-ltb c a h);
}

next-above : (a c : ℕ) → a < c → Next a c (record { 0 = c - 1 })
unfolding camera_of rows_below
next-above a c h = record {
  row = simp (lt-ltb a c h);
  more = simp (lt-ltb a c h, lt-ltb a (c + 1) (omega arith)) (omega arith);
  camera = simp (le-ltb (c - 1) a (omega arith)) (omega arith);
}

count : (a c : ℕ) → Count a c (dense_row c a)
unfolding rows_below
count a c =
    ⊎_elim
    (λ (b : c < a). rw (← row_below c a (λ e. omega arith) b) (next-below a c b))
    (⊎_elim
    (λ (b : c ≡ a). rw (← row-anchor c a b) (simp (le-ltb a c (omega arith), lt-ltb a (c + 1) (omega arith)) (omega arith)))
    (λ (b : a < c). rw (← row-above c a (λ e. omega arith) (omega arith)) (next-above a c b)))
    (order c a)

pub count-anchor : (a c : ℕ) → dense_row c a ≡ None → rows_below a (c + 1) ≡ rows_below a c
count-anchor a c e = subst (Count a c) e (count a c)

pub count-dense : (a c : ℕ) (p : DenseRow) → dense_row c a ≡ Some p → Next a c p
count-dense a c p e = subst (Count a c) e (count a c)
