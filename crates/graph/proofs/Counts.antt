-- The labels' count: a label is new just where it is its camera's own number. Assumes nothing.
use Prim.Native.Nat.{ℕ, zero, suc, ◌+◌, ◌≤◌, ◌<◌}
use mathlib.Core.Path.{◌≡◌, refl, sym, ap, ◌∙◌}
use mathlib.Core.Logic.{⊎_elim}
use mathlib.Core.List.{List, [], ◌∷◌, ◌++◌, append_assoc}
use mathlib.Core.Bool.{Bool, true, false, cond, ◌||◌, or_assoc, or-true, or-false, true≢false}
use native.Mathlib.Nat.{eq-or-lt_of_le, le_of_suc-le-suc}
use native.Mathlib.Numerals.{add-one}
use native.Mathlib.Omega.{arith}
use lib.ListN.{length, set, drop}
use lib.Seq.{set_at, drop-cons}
use lib.Dec.{eqb}
use borrow.Author.Tests.{eq-eqb, ne_eqb, eqb-true, eqb-false}
use Rattle.field.specs.Count.{field}
use Rattle.field.proofs.Counting.{length-field}
use Rattle.graph.specs.Distinct.{occurs, distinct}
use Rattle.graph.specs.inner.Forest.{root_of, Climbed}
use Rattle.graph.proofs.Forests.{root-falls, root-root}

-- ---- one number more at the end

eqb_comm : (x y : ℕ) → eqb x y ≡ eqb y x
eqb_comm x y = go (eqb x y) refl
  where
    go : (b : Bool) → eqb x y ≡ b → b ≡ eqb y x
    go true e = sym (eq-eqb y x (sym (eqb-true x y e)))
    go false e = sym (ne_eqb y x (λ i. eqb-false x y e (sym i)))

occurs-end : (x y : ℕ) (l : List ℕ) → occurs x (l ++ (y ∷ [])) ≡ (occurs x l || eqb x y)
unfolding occurs
occurs-end x y [] = or-false (eqb x y)
occurs-end x y (z ∷ l) = rw (occurs-end x y l) (sym (or_assoc (eqb x z) (occurs x l) (eqb x y)))

distinct-end : (x : ℕ) (l : List ℕ) → distinct (l ++ (x ∷ [])) ≡ cond (occurs x l) (distinct l) (suc (distinct l))
unfolding occurs distinct
distinct-end x [] = refl
distinct-end x (z ∷ l) = rw (occurs-end z x l, distinct-end x l, eqb_comm x z) (go (eqb z x) refl (occurs z l) refl (occurs x l) refl)
  where
    n : ℕ
    n = distinct l

    go : (same : Bool) → eqb z x ≡ same → (a : Bool) → occurs z l ≡ a → (b : Bool) → occurs x l ≡ b →
        cond (a || same) (cond b n (suc n)) (suc (cond b n (suc n))) ≡ cond (same || b) (cond a n (suc n)) (suc (cond a n (suc n)))
    go true e true f true h = refl
    go true e true f false h = absurd (true≢false (sym f ∙ ap (λ (w : ℕ). occurs w l) (eqb-true z x e) ∙ h))
    go true e false f true h = absurd (true≢false (sym h ∙ ap (λ (w : ℕ). occurs w l) (sym (eqb-true z x e)) ∙ f))
    go true e false f false h = refl
    go false e true f true h = refl
    go false e true f false h = refl
    go false e false f true h = refl
    go false e false f false h = refl

-- ---- a list that is made place by place

module _ (g : ℕ → ℕ) where
  -- one place more is filled
  field-more : (k : ℕ) (l : List ℕ) → k < length l → set (field k g ++ drop k l) k (g k) ≡ field (suc k) g ++ drop (suc k) l
  unfolding field
  field-more k l h = rw (drop-cons l k 0 h, append_assoc) (set_at (field k g) _ (drop (suc k) l) (g k) k (length-field k g))

  field-holds : (x i k : ℕ) → i < k → g i ≡ x → occurs x (field k g) ≡ true
  unfolding field
  field-holds x i zero h e = absurd (omega arith)
  field-holds x i (suc k) h e =
      ⊎_elim
      (λ (d : i ≡ k). rw (occurs-end x (g k) (field k g), eq-eqb x (g k) (sym e ∙ ap g d)) (or-true (occurs x (field k g))))
      (λ (d : i < k). rw (occurs-end x (g k) (field k g), field-holds x i k d e))
      (eq-or-lt_of_le (le_of_suc-le-suc h))

  field-lacks : (x k : ℕ) → ((i : ℕ) → i < k → g i ≡ x → ⊥) → occurs x (field k g) ≡ false
  unfolding field occurs
  field-lacks x zero n = refl
  field-lacks x (suc k) n =
      rw (occurs-end x (g k) (field k g), field-lacks x k (λ i h. n i (omega arith)), ne_eqb x (g k) (λ e. n k (omega arith) (sym e)))

-- ---- the labels

-- where no label g c exceeds its camera c, and each is its own label, the label of camera c is new just if it is c
module _ (g : ℕ → ℕ) (falls : (x : ℕ) → g x ≤ x) (own : (x : ℕ) → g (g x) ≡ g x) where
  count-own : (c : ℕ) → g c ≡ c → distinct (field (suc c) g) ≡ suc (distinct (field c g))
  unfolding field
  count-own c e =
      let l : occurs (g c) (field c g) ≡ false = field-lacks g (g c) c (λ i h d. omega (arith, falls i)) in
      distinct-end (g c) (field c g) ∙ rw l

  count-other : (c : ℕ) → (g c ≡ c → ⊥) → distinct (field (suc c) g) ≡ distinct (field c g)
  unfolding field
  count-other c d =
      let l : occurs (g c) (field c g) ≡ true = field-holds g (g c) (g c) c (omega (arith, falls c)) (own c) in
      distinct-end (g c) (field c g) ∙ rw l

-- ---- the labels, listed one by one

-- after c cameras: the roots are as they were, and the cameras' labels stand in front and are counted
pub record LabelledBelow (p₀ l₀ p l : List ℕ) (count c : ℕ) : Type 0 where
  pub root : (x : ℕ) → root_of p x ≡ root_of p₀ x
  pub long : length p ≡ length p₀
  pub listed : l ≡ field c (root_of p₀) ++ drop c l₀
  pub counted : count ≡ distinct (field c (root_of p₀))
  pub few : count ≤ c

pub labels-none : {p : List ℕ} (l : List ℕ) → LabelledBelow p l p l 0 0
unfolding field distinct
labels-none l = record { root = λ x. refl; long = refl; listed = refl; counted = refl; few = omega arith }

-- one camera more: its label stands, and is counted if it is the camera itself
module _ {p₀ l₀ p l q : List ℕ} {count c r : ℕ} (i : LabelledBelow p₀ l₀ p l count c) (k : Climbed p c r q) (n : length q ≡ length p) (h : c < length l₀) where
  found : r ≡ root_of p₀ c
  found = k.found ∙ i.root c

  back : (x : ℕ) → root_of q x ≡ root_of p₀ x
  back x = k.same.root x ∙ i.root x

  falls : (x : ℕ) → root_of p₀ x ≤ x
  falls x = rw back at (root-falls q k.same.forest x)

  own : (x : ℕ) → root_of p₀ (root_of p₀ x) ≡ root_of p₀ x
  own x = rw (back x, back (root_of p₀ x)) at (root-root q k.same.forest x)

  label-more : set l c r ≡ field (c + 1) (root_of p₀) ++ drop (c + 1) l₀
  label-more = rw (i.listed, add-one, found) (field-more (root_of p₀) c l₀ h)

  label-step : {count' : ℕ} → count' ≡ distinct (field (suc c) (root_of p₀)) → count' ≤ c + 1 → LabelledBelow p₀ l₀ q (set l c r) count' (c + 1)
  label-step e w = record { root = back; long = n ∙ i.long; listed = label-more; counted = rw add-one e; few = w }

  pub label-own : {count' : ℕ} → r ≡ c → count' ≡ count + 1 → LabelledBelow p₀ l₀ q (set l c r) count' (c + 1)
  label-own e t =
      label-step (t ∙ rw (i.counted, add-one) (sym (count-own (root_of p₀) falls own c (sym found ∙ e)))) (omega (arith, i.few))

  pub label-other : {count' : ℕ} → (r ≡ c → ⊥) → count' ≡ count → LabelledBelow p₀ l₀ q (set l c r) count' (c + 1)
  label-other d t =
      label-step (t ∙ rw i.counted (sym (count-other (root_of p₀) falls own c (λ e. d (found ∙ e))))) (omega (arith, i.few))
