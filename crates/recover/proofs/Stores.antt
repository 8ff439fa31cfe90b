-- Numbers that are stored row after row: a run of stores, the next run, and that every row is stored. Assumes nothing.
use Prim.Native.Nat.{ℕ, zero, suc, ◌+◌, ◌<◌}
use mathlib.Core.Path.{◌≡◌, refl, sym, ap, subst, ◌∙◌}
use mathlib.Core.Logic.{⊎_elim}
use mathlib.Core.List.{List}
use mathlib.Core.Bool.{Bool, true, false}
use native.Mathlib.Nat.{eq-or-lt_of_le, le_of_suc-le-suc, zero-add}
use native.Mathlib.Numerals.{add-one}
use native.Mathlib.Omega.{arith}
use lib.Dec.{eqb}
use lib.Ieee.{Float, nan}
use lib.ListN.{length, get_or, set, length-set}
use lib.Seq.{get_or-set_same, get_or-set_other, ext_get_or}
use borrow.Author.Tests.{eqb-true, eqb-false}
use Rattle.field.specs.Count.{upto, field}
use Rattle.field.proofs.Counting.{upto_zero, upto-suc, upto_add, upto-ext, upto-keeps, length-field, get_or-field}
use Rattle.recover.specs.inner.Order.{stored_at}

-- ---- a run of stores, and the next

-- the other row and number of each place are the same
pub stored-ext : (row row' : ℕ → ℕ) (g g' : ℕ → Float) (f k : ℕ) (l : List Float) →
    ((i : ℕ) → i < k → row (f + i) ≡ row' (f + i)) → ((i : ℕ) → i < k → g (row (f + i)) ≡ g' (row (f + i))) → stored_at row g f k l ≡ stored_at row' g' f k l
unfolding stored_at
stored-ext row row' g g' f k l h q = upto-ext _ _ k l (λ i t b. rw (q i b, h i b))

module _ (row : ℕ → ℕ) (g : ℕ → Float) where
  pub stored-none : (f : ℕ) (l : List Float) → l ≡ stored_at row g f 0 l
  unfolding stored_at
  stored-none f l = sym (upto_zero _ l)

  pub stored_more : (f i r : ℕ) (l w w' : List Float) → r ≡ row (f + i) → w ≡ stored_at row g f i l → w' ≡ set w r (g r) → w' ≡ stored_at row g f (i + 1) l
  unfolding stored_at
  stored_more f i r l w w' e h t = t ∙ rw (add-one, upto-suc _ i l, ← e, ← h)

  from_zero : (k : ℕ) (l : List Float) → stored_at row g 0 k l ≡ upto (λ i t. set t (row i) (g (row i))) k l
  unfolding stored_at
  from_zero k l = simp zero-add

  pub stored-add : (s k : ℕ) (l w w' : List Float) → w ≡ stored_at row g 0 s l → w' ≡ stored_at row g s k w → w' ≡ stored_at row g 0 (s + k) l
  unfolding stored_at
  stored-add s k l w w' e h = h ∙ rw (e, from_zero s l, from_zero (s + k) l) (sym (upto_add (λ i t. set t (row i) (g (row i))) s k l))

-- ---- every row is stored

-- row r is that of one of the first m places
pub record Hit (row : ℕ → ℕ) (m r : ℕ) : Type 0 where
  pub place : ℕ
  pub below : place < m
  pub is : row place ≡ r

module _ (row : ℕ → ℕ) (g : ℕ → Float) where
  abbrev all : ℕ → List Float → List Float
  all m l = upto (λ i t. set t (row i) (g (row i))) m l

  length-all : (m : ℕ) (l : List Float) → length (all m l) ≡ length l
  length-all m l = upto-keeps length (λ i t. set t (row i) (g (row i))) m l (λ k a h. length-set a (row k) (g (row k)))

  -- whatever is stored there later is the same number
  all-at : (m : ℕ) (l : List Float) (k : ℕ) → k < m → row k < length l → get_or (all m l) (row k) nan ≡ g (row k)
  all-at zero l k h b = absurd (omega arith)
  all-at (suc m) l k h b = rw (upto-suc (λ i t. set t (row i) (g (row i))) m l) (go (λ (j : k < m). all-at m l k j b) (eqb (row k) (row m)) refl)
    where
      go : (k < m → get_or (all m l) (row k) nan ≡ g (row k)) → (t : Bool) → eqb (row k) (row m) ≡ t → get_or (set (all m l) (row m) (g (row m))) (row k) nan ≡ g (row k)
      go ih true e =
          let q : row k ≡ row m = eqb-true _ _ e in
          let n : length (all m l) ≡ length l = length-all m l in
          rw q (get_or-set_same (all m l) (row m) (g (row m)) nan (omega arith))
      go ih false e =
          get_or-set_other (all m l) (row m) (row k) (g (row m)) nan (eqb-false _ _ e)
          ∙ ih (⊎_elim (λ (q : k ≡ m). absurd (eqb-false _ _ e (ap row q))) (λ (j : k < m). j) (eq-or-lt_of_le (le_of_suc-le-suc h)))

  pub stored-all : (m n : ℕ) (l : List Float) → length l ≡ n → ((r : ℕ) → r < n → Hit row m r) → stored_at row g 0 m l ≡ field n g
  stored-all m n l e hit =
      let a : length (all m l) ≡ n = length-all m l ∙ e in
      from_zero row g m l
      ∙ ext_get_or nan (all m l) (field n g) (a ∙ sym (length-field n g)) (λ r h.
      let k : r < n = omega arith in
      let t = hit r k in
      subst (λ (q : ℕ). get_or (all m l) q nan ≡ g q) t.is (all-at m l t.place t.below (omega (arith, t.is))) ∙ sym (get_or-field n g r nan k))
