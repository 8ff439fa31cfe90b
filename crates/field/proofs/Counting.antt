-- Laws of counting: of `upto`, `field` and `lowest`. Assumes nothing.
use Rattle.std.proofs.Common.{None, Option, Some, MatchOption}
use Rattle.std.proofs.lemmas.Bool.{cases_lt}
use mathlib.Core.Path.{◌≡◌, refl, sym, ap, ap₂, subst, ◌∙◌}
use mathlib.Core.Logic.{⊎_elim, dite}
use mathlib.Core.List.{List, [], ◌∷◌, ◌++◌, append_assoc, append-nil}
use mathlib.Core.Bool.{Bool, true, false, cond}
use Prim.Native.Nat.{ℕ, zero, suc, ◌+◌, ◌≤◌, ◌<◌}
use native.Mathlib.Nat.{add-zero, add-suc, eq-or-lt_of_le, le_of_suc-le-suc}
use native.Mathlib.Decide.{ℕ_discrete}
use native.Mathlib.Omega.{arith}
use lib.ListN.{length, get_or, replicate, set, length-append, length-replicate, length-set, get_or-replicate, get_or-append}
use lib.Seq.{get_or_at, get_or-set_same, get_or-set_other, ext_get_or}
use Rattle.std.specs.Option.{option_or}
use Rattle.field.specs.Count.{upto, field, lowest, shift}

-- ---- upto

module _ {ℓ} {S : Type ℓ} where
  pub upto_zero : (f : ℕ → S → S) (s : S) → upto f 0 s ≡ s
  unfolding upto
  upto_zero f s = refl

  pub upto-suc : (f : ℕ → S → S) (n : ℕ) (s : S) → upto f (suc n) s ≡ f n (upto f n s)
  unfolding upto
  upto-suc f n s = refl

  -- the first n steps, then k more
  pub upto_add : (f : ℕ → S → S) (n k : ℕ) (s : S) → upto f (n + k) s ≡ upto (λ i. f (n + i)) k (upto f n s)
  unfolding upto
  upto_add f n zero s = rw add-zero
  upto_add f n (suc k) s = rw add-suc (ap (f (n + k)) (upto_add f n k s))

  -- what each step keeps
  pub upto-invariant : (P : ℕ → S → Type 0) (f : ℕ → S → S) (n : ℕ) (s : S) → ((k : ℕ) (t : S) → k < n → P k t → P (suc k) (f k t)) → P 0 s → P n (upto f n s)
  unfolding upto
  upto-invariant P f zero s h p = p
  upto-invariant P f (suc n) s h p = h n (upto f n s) (omega arith) (upto-invariant P f n s (λ k t l. h k t (omega arith)) p)

  pub upto-ext : (f g : ℕ → S → S) (n : ℕ) (s : S) → ((k : ℕ) (t : S) → k < n → f k t ≡ g k t) → upto f n s ≡ upto g n s
  unfolding upto
  upto-ext f g zero s h = refl
  upto-ext f g (suc n) s h = ap (f n) (upto-ext f g n s (λ k t l. h k t (omega arith))) ∙ h n (upto g n s) (omega arith)

module _ {ℓ ℓ'} {S : Type ℓ} {T : Type ℓ'} where
  -- two runs whose states stay related
  pub upto-related : (R : S → T → Type 0) (f : ℕ → S → S) (g : ℕ → T → T) (n : ℕ) (s : S) (t : T) → ((k : ℕ) (a : S) (b : T) → k < n → R a b → R (f k a) (g k b)) → R s t → R (upto f n s) (upto g n t)
  unfolding upto
  upto-related R f g zero s t h r = r
  upto-related R f g (suc n) s t h r =
      h n (upto f n s) (upto g n t) (omega arith) (upto-related R f g n s t (λ k a b l. h k a b (omega arith)) r)

  -- what no step changes, as a length
  pub upto-keeps : (view : S → T) (f : ℕ → S → S) (n : ℕ) (s : S) → ((k : ℕ) (a : S) → k < n → view (f k a) ≡ view a) → view (upto f n s) ≡ view s
  unfolding upto
  upto-keeps view f zero s h = refl
  upto-keeps view f (suc n) s h = h n (upto f n s) (omega arith) ∙ upto-keeps view f n s (λ k a l. h k a (omega arith))

  -- steps seen through a view: a run of the view's own steps
  pub upto-map : (view : S → T) (f : ℕ → S → S) (g : ℕ → T → T) (n : ℕ) (s : S) → ((k : ℕ) (a : S) → k < n → view (f k a) ≡ g k (view a)) → view (upto f n s) ≡ upto g n (view s)
  unfolding upto
  upto-map view f g zero s h = refl
  upto-map view f g (suc n) s h = h n (upto f n s) (omega arith) ∙ ap (g n) (upto-map view f g n s (λ k a l. h k a (omega arith)))

-- ---- field

module _ {ℓ} {A : Type ℓ} where
  pub field-zero : (g : ℕ → A) → field 0 g ≡ []
  unfolding field
  field-zero g = refl

  pub field-suc : (n : ℕ) (g : ℕ → A) → field (suc n) g ≡ field n g ++ (g n ∷ [])
  unfolding field
  field-suc n g = refl

  pub length-field : (n : ℕ) (g : ℕ → A) → length (field n g) ≡ n
  unfolding field
  length-field zero g = refl
  length-field (suc n) g = length-append (field n g) (g n ∷ []) ∙ (let e : length (field n g) ≡ n = length-field n g in omega arith)

  pub get_or-field : (n : ℕ) (g : ℕ → A) (i : ℕ) (d : A) → i < n → get_or (field n g) i d ≡ g i
  unfolding field
  get_or-field zero g i d h = absurd (omega arith)
  get_or-field (suc n) g i d h =
      let e : length (field n g) ≡ n = length-field n g in
      ⊎_elim
      (λ (q : i ≡ n). rw q (get_or_at (field n g) (g n) [] d n e))
      (λ (k : i < n). get_or-append (field n g) (g n ∷ []) d i (omega arith) ∙ get_or-field n g i d k)
      (eq-or-lt_of_le (le_of_suc-le-suc h))

  pub field-ext : (n : ℕ) (g k : ℕ → A) → ((i : ℕ) → i < n → g i ≡ k i) → field n g ≡ field n k
  unfolding field
  field-ext zero g k h = refl
  field-ext (suc n) g k h = ap₂ (λ (t : List A) (v : A). t ++ (v ∷ [])) (field-ext n g k (λ i l. h i (omega arith))) (h n (omega arith))

  pub field-same : (n : ℕ) (g : ℕ → A) (v : A) → ((i : ℕ) → g i ≡ v) → field n g ≡ replicate n v
  field-same n g v h =
      ext_get_or v (field n g) (replicate n v) (length-field n g ∙ sym (length-replicate n v))
      (λ i k. let l : i < n = omega (arith, length-field n g) in get_or-field n g i v l ∙ h i ∙ sym (get_or-replicate n i v v l))

  -- the first n elements, then k more
  pub field-add : (n k : ℕ) (g : ℕ → A) → field (n + k) g ≡ field n g ++ field k (λ i. g (n + i))
  unfolding field
  field-add n zero g = rw add-zero (sym (append-nil (field n g)))
  field-add n (suc k) g =
      rw add-suc
      (ap (λ (t : List A). t ++ (g (n + k) ∷ [])) (field-add n k g)
      ∙ append_assoc (field n g) (field k (λ i. g (n + i))) (g (n + k) ∷ []))

  -- a list is the field of its elements
  pub field-get_or : (d : A) (l : List A) (n : ℕ) → length l ≡ n → field n (λ i. get_or l i d) ≡ l
  field-get_or d l n e =
      let g : ℕ → A = λ i. get_or l i d in
      let h : length (field n g) ≡ n = length-field n g in
      ext_get_or d (field n g) l (h ∙ sym e) (λ i k. get_or-field n g i d (omega arith))

  -- one element changed
  pub set-field : (n : ℕ) (g h : ℕ → A) (i : ℕ) → i < n → ((j : ℕ) → j < n → (j ≡ i → ⊥) → g j ≡ h j) → set (field n g) i (h i) ≡ field n h
  set-field n g h i l same =
      let e : length (field n g) ≡ n = length-field n g in
      ext_get_or (h i) _ _ (length-set (field n g) i (h i) ∙ e ∙ sym (length-field n h)) at
    where
      at : (j : ℕ) → j < length (set (field n g) i (h i)) → get_or (set (field n g) i (h i)) j (h i) ≡ get_or (field n h) j (h i)
      at j k =
          let m : j < n = omega (arith, length-set (field n g) i (h i), length-field n g) in
          dite
          (ℕ_discrete j i)
          (λ (q : j ≡ i). rw q (get_or-set_same (field n g) i (h i) (h i) (omega (arith, length-field n g)) ∙ sym (get_or-field n h i (h i) l)))
          (λ (q : j ≡ i → ⊥). get_or-set_other (field n g) i j (h i) (h i) q ∙ get_or-field n g j (h i) m ∙ same j m q ∙ sym (get_or-field n h j (h i) m))

-- ---- lowest

pub lowest-zero : (p : ℕ → Bool) → lowest p 0 ≡ None
unfolding lowest
lowest-zero p = refl

pub lowest-more : (p : ℕ → Bool) (i : ℕ) → lowest p i ≡ None → p i ≡ false → lowest p (suc i) ≡ None
unfolding lowest
lowest-more p i e f = rw (e, f)

-- what is found stays found
pub lowest-stays : (p : ℕ → Bool) (k i n : ℕ) → lowest p k ≡ Some i → k ≤ n → lowest p n ≡ Some i
unfolding lowest
lowest-stays p k i zero e h = rw (let z : k ≡ 0 = omega arith in z) at e
lowest-stays p k i (suc n) e h =
    ⊎_elim
    (λ (q : k ≡ suc n). rw q at e)
    (λ (l : k < suc n). rw (lowest-stays p k i n e (omega arith)))
    (eq-or-lt_of_le h)

pub lowest-found : (p : ℕ → Bool) (i n : ℕ) → lowest p i ≡ None → p i ≡ true → i < n → lowest p n ≡ Some i
unfolding lowest
lowest-found p i n e t h = lowest-stays p (suc i) i n (rw (e, t)) h

pub lowest-none : (p : ℕ → Bool) (n : ℕ) → ((k : ℕ) → k < n → p k ≡ false) → lowest p n ≡ None
lowest-none p zero h = lowest-zero p
lowest-none p (suc n) h = lowest-more p n (lowest-none p n (λ k l. h k (omega arith))) (h n (omega arith))

-- the lowest, told by what it is
pub lowest-is : (p : ℕ → Bool) (i n : ℕ) → p i ≡ true → i < n → ((k : ℕ) → k < i → p k ≡ false) → lowest p n ≡ Some i
lowest-is p i n t l h = lowest-found p i n (lowest-none p i h) t l

-- the lowest, told by a search from a on, below which no place has the property
pub lowest-searched : (p : ℕ → Bool) (a n : ℕ) → ((k : ℕ) → k < a → p k ≡ false) → {r : Option ℕ} →
    MatchOption r ((k : ℕ) → a ≤ k → k < n → p k ≡ false) (λ i. (a ≤ i) × (i < n) × (p i ≡ true) × ((k : ℕ) → a ≤ k → k < i → p k ≡ false)) →
    r ≡ lowest p n
lowest-searched p a n before {r = r} t = at r t
  where
    each : (m : ℕ) → ((k : ℕ) → a ≤ k → k < m → p k ≡ false) → (k : ℕ) → k < m → p k ≡ false
    each m from k l = ⊎_elim (λ (h : k < a). before k h) (λ (h : a ≤ k). from k h l) (cases_lt k a)

    at : (r : Option ℕ) → MatchOption r ((k : ℕ) → a ≤ k → k < n → p k ≡ false) (λ i. (a ≤ i) × (i < n) × (p i ≡ true) × ((k : ℕ) → a ≤ k → k < i → p k ≡ false)) →
        r ≡ lowest p n
    at None t = sym (lowest-none p n (each n t))
    at (Some i) t = sym (lowest-is p i n t.2 t.1 (each i t.3))

-- what an answer says of the places
abbrev Told : (ℕ → Bool) → ℕ → Option ℕ → Type 0
Told p n (Some i) = (p i ≡ true) × (i < n) × ((k : ℕ) → k < i → p k ≡ false)
Told p n None = (k : ℕ) → k < n → p k ≡ false

told_more : (p : ℕ → Bool) (n : ℕ) (r : Option ℕ) (b : Bool) → p n ≡ b → Told p n r → Told p (suc n) (option_or r (cond b (Some n) None))
told_more p n (Some i) b e t = (t.0, omega (arith, t.1), t.2)
told_more p n None true e t = (e, omega arith, t)
told_more p n None false e t = λ k l. ⊎_elim (λ (q : k ≡ n). rw q e) (λ (m : k < n). t k m) (eq-or-lt_of_le (le_of_suc-le-suc l))

told : (p : ℕ → Bool) (n : ℕ) → Told p n (lowest p n)
unfolding lowest
told p zero = λ k l. absurd (omega arith)
told p (suc n) = told_more p n (lowest p n) (p n) refl (told p n)

pub none_of : (p : ℕ → Bool) (n : ℕ) → lowest p n ≡ None → (k : ℕ) → k < n → p k ≡ false
none_of p n e = subst (Told p n) e (told p n)

pub found : (p : ℕ → Bool) (n i : ℕ) → lowest p n ≡ Some i → (p i ≡ true) × (i < n) × ((k : ℕ) → k < i → p k ≡ false)
found p n i e = subst (Told p n) e (told p n)

-- a range in two parts
or-shift : (r q : Option ℕ) (n k : ℕ) (b : Bool) → option_or (option_or r (shift n q)) (cond b (Some (n + k)) None) ≡ option_or r (shift n (option_or q (cond b (Some k) None)))
or-shift (Some i) q n k b = refl
or-shift None (Some i) n k b = refl
or-shift None None n k true = refl
or-shift None None n k false = refl

or-none : (r : Option ℕ) → r ≡ option_or r None
or-none (Some i) = refl
or-none None = refl

pub lowest-add : (p : ℕ → Bool) (n k : ℕ) → lowest p (n + k) ≡ option_or (lowest p n) (shift n (lowest (λ i. p (n + i)) k))
unfolding lowest
lowest-add p n zero = rw add-zero (or-none (lowest p n))
lowest-add p n (suc k) =
    rw add-suc
    (ap (λ (r : Option ℕ). option_or r (cond (p (n + k)) (Some (n + k)) None)) (lowest-add p n k)
    ∙ or-shift (lowest p n) (lowest (λ i. p (n + i)) k) n k (p (n + k)))
