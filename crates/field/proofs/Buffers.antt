-- Laws of `write` and `part`, over lists of any kind; then of `get`, `put`, `load` and `store`, over any lawful cell.
-- A cell that is only read need not be lawful. Places come as p + K.width * i, which computes where the width is a numeral.
-- Assumes nothing.
use mathlib.Core.Path.{◌≡◌, refl, sym, ap, subst, ◌∙◌}
use mathlib.Core.Logic.{◌⊎◌, inl, inr, ⊎_elim}
use mathlib.Core.List.{List, [], ◌∷◌, ◌++◌, append_assoc, append-nil}
use Prim.Native.Nat.{ℕ, zero, suc, ◌+◌, ◌*◌, ◌-◌, ◌≤◌, ◌<◌}
use native.Mathlib.Nat.{add-zero, zero-add, suc-add, mul-zero, mul-suc, mul-le-mul_left, sub-zero, one-mul}
use native.Mathlib.Numerals.{towards_suc}
use native.Mathlib.Omega.{arith}
use lib.ListN.{length, get_or, set, take, drop, replicate, length-set, length-append, length-drop, length-replicate, drop_of_length-le}
use lib.Seq.{take-nil, take-take, drop-drop, length-take-le, set-set, set_comm, take-set-le, drop-set-lt, get_or-set_same, get_or-set_other, get_or-take, get_or-drop, ext_get_or, sets, drop-append-add}
use lib.Seq.{take-add, drop-set-add, drop-append-le, take-append-le, take-length, take_at, drop_at}
use lib.Ieee.{Float, nan}
use Rattle.field.specs.declared.Vec3.{Vec3}
use Rattle.field.specs.Count.{field}
use Rattle.field.specs.Buffer.{part, write, Cell, get, put, flat, load, store, number, vector}
use Rattle.field.proofs.Counting.{length-field, get_or-field, field-ext, field-suc}

-- the places p .. p + a - 1 lie before q .. q + b - 1, or after them
abbrev pub Apart : ℕ → ℕ → ℕ → ℕ → Type 0
Apart p a q b = (p + a ≤ q) ⊎ (q + b ≤ p)

-- ---- write

module _ {ℓ} {A : Type ℓ} where
  pub length-write : (l : List A) (p : ℕ) (xs : List A) → length (write l p xs) ≡ length l
  unfolding write
  length-write l p [] = refl
  length-write l p (x ∷ xs) = length-set (write l (suc p) xs) p x ∙ length-write l (suc p) xs

  pub set-write : (l : List A) (p : ℕ) (v : A) → set l p v ≡ write l p (v ∷ [])
  unfolding write
  set-write l p v = refl

  -- a store outside what is written
  pub write-set : (l : List A) (p k : ℕ) (v : A) (xs : List A) → (k < p) ⊎ (p + length xs ≤ k) → write (set l k v) p xs ≡ set (write l p xs) k v
  unfolding write
  write-set l p k v [] h = refl
  write-set l p k v (x ∷ xs) h =
      let e : k ≡ p → ⊥ = ⊎_elim (λ (b : k < p) q. omega arith) (λ (b : p + suc (length xs) ≤ k) q. omega arith) h in
      let h' : (k < suc p) ⊎ (suc p + length xs ≤ k) = ⊎_elim (λ (b : k < p). inl (omega arith)) (λ (b : p + suc (length xs) ≤ k). inr (omega arith)) h in
      ap (λ (t : List A). set t p x) (write-set l (suc p) k v xs h') ∙ set_comm (write l (suc p) xs) k p v x e

  -- the stores from the first on, as straight-line code makes them
  pub write-sets : (l : List A) (p : ℕ) (xs : List A) → write l p xs ≡ sets l p xs
  unfolding write
  write-sets l p [] = refl
  write-sets l p (x ∷ xs) = sym (write-set l (suc p) p x xs (inl (omega arith))) ∙ write-sets (set l p x) (suc p) xs

  pub write-cons : (a : A) (l : List A) (p : ℕ) (xs : List A) → write (a ∷ l) (suc p) xs ≡ a ∷ write l p xs
  unfolding write
  write-cons a l p [] = refl
  write-cons a l p (x ∷ xs) = ap (λ (t : List A). set t (suc p) x) (write-cons a l (suc p) xs)

  pub write-append : (l : List A) (p : ℕ) (xs ys : List A) → write (write l p xs) (p + length xs) ys ≡ write l p (xs ++ ys)
  unfolding write
  write-append l p [] ys = rw add-zero
  write-append l p (x ∷ xs) ys =
      let e : p + suc (length xs) ≡ suc p + length xs = omega arith in
      rw e
      (write-set (write l (suc p) xs) (suc p + length xs) p x ys (inl (omega arith))
      ∙ ap (λ (t : List A). set t p x) (write-append l (suc p) xs ys))

  pub write-comm : (l : List A) (p : ℕ) (xs : List A) (q : ℕ) (ys : List A) → Apart p (length xs) q (length ys) → write (write l p xs) q ys ≡ write (write l q ys) p xs
  unfolding write
  write-comm l p [] q ys h = refl
  write-comm l p (x ∷ xs) q ys h =
      let h' : Apart (suc p) (length xs) q (length ys) = ⊎_elim (λ (b : p + suc (length xs) ≤ q). inl (omega arith)) (λ (b : q + length ys ≤ p). inr (omega arith)) h in
      let k : (p < q) ⊎ (q + length ys ≤ p) = ⊎_elim (λ (b : p + suc (length xs) ≤ q). inl (omega arith)) (λ (b : q + length ys ≤ p). inr b) h in
      write-set (write l (suc p) xs) q p x ys k ∙ ap (λ (t : List A). set t p x) (write-comm l (suc p) xs q ys h')

  pub write-write : (l : List A) (p : ℕ) (xs ys : List A) → length xs ≤ length ys → write (write l p xs) p ys ≡ write l p ys
  unfolding write
  write-write l p [] ys h = refl
  write-write l p (x ∷ xs) [] h = absurd (omega arith)
  write-write l p (x ∷ xs) (y ∷ ys) h =
      ap (λ (t : List A). set t p y) (write-set (write l (suc p) xs) (suc p) p x ys (inl (omega arith)))
      ∙ set-set (write (write l (suc p) xs) (suc p) ys) p x y
      ∙ ap (λ (t : List A). set t p y) (write-write l (suc p) xs ys (omega arith))

  -- a store within what was written
  pub set-inside : (l : List A) (p : ℕ) (xs : List A) (k : ℕ) (v : A) → k < length xs → set (write l p xs) (p + k) v ≡ write l p (set xs k v)
  unfolding write
  set-inside l p [] k v h = absurd (omega arith)
  set-inside l p (x ∷ xs) zero v h = rw add-zero (set-set (write l (suc p) xs) p x v)
  set-inside l p (x ∷ xs) (suc k) v h =
      let e : p + suc k ≡ suc p + k = omega arith in
      rw e
      (set_comm (write l (suc p) xs) p (suc p + k) x v (omega arith) ∙ ap (λ (t : List A). set t p x) (set-inside l (suc p) xs k v (omega arith)))

  pub write-inside : (l : List A) (p : ℕ) (xs : List A) (q : ℕ) (ys : List A) → q + length ys ≤ length xs → write (write l p xs) (p + q) ys ≡ write l p (write xs q ys)
  unfolding write
  write-inside l p xs q [] h = refl
  write-inside l p xs q (y ∷ ys) h =
      let e : suc (p + q) ≡ p + suc q = omega arith in
      let n : length (write xs (suc q) ys) ≡ length xs = length-write xs (suc q) ys in
      rw e
      (ap (λ (t : List A). set t (p + q) y) (write-inside l p xs (suc q) ys (omega arith))
      ∙ set-inside l p (write xs (suc q) ys) q y (omega arith))

  pub write-front : (l xs : List A) → length xs ≤ length l → write l 0 xs ≡ xs ++ drop (length xs) l
  unfolding write
  write-front l [] h = refl
  write-front [] (x ∷ xs) h = absurd (omega arith)
  write-front (a ∷ l) (x ∷ xs) h = ap (λ (t : List A). set t 0 x) (write-cons a l 0 xs) ∙ ap (λ (t : List A). x ∷ t) (write-front l xs (omega arith))

  pub write-whole : (l xs : List A) → length l ≡ length xs → write l 0 xs ≡ xs
  write-whole l xs h = write-front l xs (omega arith) ∙ ap (λ (t : List A). xs ++ t) (drop_of_length-le l {i = length xs} (omega arith)) ∙ append-nil xs

  -- the list before, what is written, the list after
  pub write-split : (l : List A) (p : ℕ) (xs : List A) → p + length xs ≤ length l → write l p xs ≡ take p l ++ (xs ++ drop (p + length xs) l)
  write-split l zero xs h = rw zero-add (write-front l xs (omega arith))
  write-split [] (suc p) xs h = absurd (omega arith)
  write-split (a ∷ l) (suc p) xs h = write-cons a l p xs ∙ rw suc-add (ap (λ (t : List A). a ∷ t) (write-split l p xs (omega arith)))

  -- past what stands in front
  write-past : (xs r : List A) (q : ℕ) (ys : List A) → write (xs ++ r) (length xs + q) ys ≡ xs ++ write r q ys
  write-past [] r q ys = rw zero-add
  write-past (x ∷ xs) r q ys = rw suc-add (write-cons x (xs ++ r) (length xs + q) ys ∙ ap (λ (t : List A). x ∷ t) (write-past xs r q ys))

  pub take-write : (n : ℕ) (l : List A) (p : ℕ) (xs : List A) → n ≤ p → take n (write l p xs) ≡ take n l
  unfolding write
  take-write n l p [] h = refl
  take-write n l p (x ∷ xs) h = take-set-le n (write l (suc p) xs) p x h ∙ take-write n l (suc p) xs (omega arith)

  pub drop-write : (m : ℕ) (l : List A) (p : ℕ) (xs : List A) → p + length xs ≤ m → drop m (write l p xs) ≡ drop m l
  unfolding write
  drop-write m l p [] h = refl
  drop-write m l p (x ∷ xs) h = drop-set-lt m (write l (suc p) xs) p x (omega arith) ∙ drop-write m l (suc p) xs (omega arith)

  pub drop-inside : (m : ℕ) (l : List A) (p : ℕ) (xs : List A) → drop m (write l (m + p) xs) ≡ write (drop m l) p xs
  unfolding write
  drop-inside m l p [] = refl
  drop-inside m l p (x ∷ xs) =
      let e : suc (m + p) ≡ m + suc p = omega arith in
      rw e (drop-set-add m (write l (m + suc p) xs) p x ∙ ap (λ (t : List A). set t p x) (drop-inside m l (suc p) xs))

  pub get_or-inside : (l : List A) (p : ℕ) (xs : List A) (k : ℕ) (d : A) → k < length xs → p + length xs ≤ length l → get_or (write l p xs) (p + k) d ≡ get_or xs k d
  unfolding write
  get_or-inside l p [] k d h f = absurd (omega arith)
  get_or-inside l p (x ∷ xs) zero d h f =
      let n : length (write l (suc p) xs) ≡ length l = length-write l (suc p) xs in
      rw add-zero (get_or-set_same (write l (suc p) xs) p x d (omega arith))
  get_or-inside l p (x ∷ xs) (suc k) d h f =
      let e : p + suc k ≡ suc p + k = omega arith in
      rw e (get_or-set_other (write l (suc p) xs) p (suc p + k) x d (omega arith) ∙ get_or-inside l (suc p) xs k d (omega arith) (omega arith))

  pub get_or-apart : (l : List A) (p : ℕ) (xs : List A) (k : ℕ) (d : A) → (k < p) ⊎ (p + length xs ≤ k) → get_or (write l p xs) k d ≡ get_or l k d
  unfolding write
  get_or-apart l p [] k d h = refl
  get_or-apart l p (x ∷ xs) k d h =
      let e : k ≡ p → ⊥ = ⊎_elim (λ (b : k < p) q. omega arith) (λ (b : p + suc (length xs) ≤ k) q. omega arith) h in
      let h' : (k < suc p) ⊎ (suc p + length xs ≤ k) = ⊎_elim (λ (b : k < p). inl (omega arith)) (λ (b : p + suc (length xs) ≤ k). inr (omega arith)) h in
      get_or-set_other (write l (suc p) xs) p k x d e ∙ get_or-apart l (suc p) xs k d h'

  -- ---- part

  pub length_part : (l : List A) (p n : ℕ) → p + n ≤ length l → length (part l p n) ≡ n
  length_part l p n h = let e : length (drop p l) ≡ length l - p = length-drop p l in length-take-le n (drop p l) (omega arith)

  pub get_or-part : (l : List A) (p n i : ℕ) (d : A) → i < n → get_or (part l p n) i d ≡ get_or l (p + i) d
  get_or-part l p n i d h = get_or-take n (drop p l) i d h ∙ get_or-drop p l i d

  -- a part as Rattle lends it, `l[a..b]`
  pub slice-part : (a b : ℕ) (l : List A) → drop a (take b l) ≡ part l a (b - a)
  slice-part zero b l = rw sub-zero
  slice-part (suc a) zero l = let e : 0 - suc a ≡ 0 = omega arith in rw e
  slice-part (suc a) (suc b) [] = sym (take-nil (suc b - suc a))
  slice-part (suc a) (suc b) (x ∷ l) = let e : suc b - suc a ≡ b - a = omega arith in rw e (slice-part a b l)

  pub part-part : (l : List A) (p n q m : ℕ) → q + m ≤ n → part (part l p n) q m ≡ part l (p + q) m
  part-part l p n q m h = ap (take m) (slice-part q n (drop p l)) ∙ take-take m (n - q) (drop q (drop p l)) (omega arith) ∙ ap (take m) (drop-drop q p l)

  pub part-inside : (l : List A) (p : ℕ) (xs : List A) (q n : ℕ) → q + n ≤ length xs → p + length xs ≤ length l → part (write l p xs) (p + q) n ≡ part xs q n
  part-inside l zero xs q n h f =
      rw (zero-add, write-front l xs (omega arith))
      (ap (take n) (drop-append-le q xs (drop (length xs) l) (omega arith))
      ∙ (let e : length (drop q xs) ≡ length xs - q = length-drop q xs in take-append-le n (drop q xs) (drop (length xs) l) (omega arith)))
  part-inside [] (suc p) xs q n h f = absurd (omega arith)
  part-inside (a ∷ l) (suc p) xs q n h f = rw (suc-add, write-cons a l p xs) (part-inside l p xs q n h (omega arith))

  pub part_same : (l : List A) (p : ℕ) (xs : List A) → p + length xs ≤ length l → part (write l p xs) p (length xs) ≡ xs
  part_same l p xs h = ap (λ (k : ℕ). part (write l p xs) k (length xs)) (sym (add-zero p)) ∙ part-inside l p xs 0 (length xs) (omega arith) h ∙ take-length xs

  part-before : (l : List A) (p : ℕ) (xs : List A) (q n : ℕ) → q + n ≤ p → part (write l p xs) q n ≡ part l q n
  part-before l p xs q n h =
      let e : p ≡ q + (p - q) = omega arith in
      ap (λ (k : ℕ). part (write l k xs) q n) e ∙ ap (take n) (drop-inside q l (p - q) xs) ∙ take-write n (drop q l) (p - q) xs (omega arith)

  pub part_apart : (l : List A) (p : ℕ) (xs : List A) (q n : ℕ) → Apart p (length xs) q n → part (write l p xs) q n ≡ part l q n
  part_apart l p xs q n = ⊎_elim (λ (b : p + length xs ≤ q). ap (take n) (drop-write q l p xs b)) (λ (b : q + n ≤ p). part-before l p xs q n b)

  pub write-part : (l : List A) (p n : ℕ) → write l p (part l p n) ≡ l
  unfolding write
  write-part l zero zero = refl
  write-part [] zero (suc n) = refl
  write-part (a ∷ l) zero (suc n) = ap (λ (t : List A). set t 0 a) (write-cons a l 0 (take n l)) ∙ ap (λ (t : List A). a ∷ t) (write-part l 0 n)
  write-part [] (suc p) n = rw take-nil
  write-part (a ∷ l) (suc p) n = write-cons a l p (part l p n) ∙ ap (λ (t : List A). a ∷ t) (write-part l p n)

  -- ---- a list that is filled from the front

  pub fill_more : (n : ℕ) (v : A) (d : List A) → n < length d → set (replicate n v ++ drop n d) n v ≡ replicate (suc n) v ++ drop (suc n) d
  fill_more n v [] l = absurd (omega arith)
  fill_more zero v (x ∷ d) l = refl
  fill_more (suc n) v (x ∷ d) l = ap (λ (t : List A). v ∷ t) (fill_more n v d (omega arith))

  pub filled-write : (n : ℕ) (v : A) (d : List A) → n ≤ length d → replicate n v ++ drop n d ≡ write d 0 (replicate n v)
  filled-write n v d h =
      let e : length (replicate n v) ≡ n = length-replicate n v in
      sym (write-front d (replicate n v) (omega arith) ∙ ap (λ (k : ℕ). replicate n v ++ drop k d) e)

  pub fill-whole : (n : ℕ) (v : A) (d : List A) → length d ≡ n → replicate n v ++ drop n d ≡ replicate n v
  fill-whole n v d e = filled-write n v d (omega arith) ∙ write-whole d (replicate n v) (e ∙ sym (length-replicate n v))

-- ---- cells

-- a cell keeps its width, and a value and its numbers tell each other
pub record Lawful {A : Type 0} (K : Cell A) : Type 0 where
  pub sized : (a : A) → length (K.numbers a) ≡ K.width
  pub back : (a : A) → K.value (K.numbers a) ≡ a
  pub forth : (l : List Float) → length l ≡ K.width → K.numbers (K.value l) ≡ l

pub number-lawful : Lawful number
number-lawful = record { sized = λ a. refl; back = λ a. refl; forth = forth1 } where
  forth1 : (l : List Float) → length l ≡ 1 → get_or l 0 nan ∷ [] ≡ l
  forth1 [] h = absurd (omega arith)
  forth1 (a ∷ []) h = refl
  forth1 (a ∷ b ∷ l) h = absurd (omega arith)

pub vector-lawful : Lawful vector
vector-lawful = record { sized = λ v. refl; back = λ v. refl; forth = forth3 } where
  forth3 : (l : List Float) → length l ≡ 3 → get_or l 0 nan ∷ get_or l 1 nan ∷ get_or l 2 nan ∷ [] ≡ l
  forth3 [] h = absurd (omega arith)
  forth3 (a ∷ []) h = absurd (omega arith)
  forth3 (a ∷ b ∷ []) h = absurd (omega arith)
  forth3 (a ∷ b ∷ c ∷ []) h = refl
  forth3 (a ∷ b ∷ c ∷ d ∷ l) h = absurd (omega arith)

-- the i-th of n slots of a width lies among them
slot : (w i n : ℕ) → i < n → w * i + w ≤ w * n
slot w i n h = rw (← mul-suc) (mul-le-mul_left w h)

module _ {A : Type 0} (K : Cell A) where
  pub length-put : (l : List Float) (p : ℕ) (a : A) → length (put K l p a) ≡ length l
  unfolding put
  length-put l p a = length-write l p (K.numbers a)

  pub length-store : (l : List Float) (p : ℕ) (f : List A) → length (store K l p f) ≡ length l
  unfolding store
  length-store l p f = length-write l p (flat K f)

  pub length-load : (l : List Float) (p n : ℕ) → length (load K l p n) ≡ n
  unfolding load
  length-load l p n = length-field n (λ i. get K l (p + K.width * i))

  pub at_load : (l : List Float) (p n i : ℕ) (d : A) → i < n → get_or (load K l p n) i d ≡ get K l (p + K.width * i)
  unfolding load
  at_load l p n i d h = get_or-field n (λ i. get K l (p + K.width * i)) i d h

  pub load-suc : (l : List Float) (p n : ℕ) → load K l p (suc n) ≡ load K l p n ++ (get K l (p + K.width * n) ∷ [])
  unfolding load
  load-suc l p n = field-suc n (λ i. get K l (p + K.width * i))

  -- where a loop begins
  pub store-none : (l : List Float) (p : ℕ) (g : ℕ → A) → l ≡ store K l p (field 0 g)
  unfolding store flat write field
  store-none l p g = refl

  pub load-none : (l : List Float) (p : ℕ) (s : List Float) (q : ℕ) → l ≡ store K l p (load K s q 0)
  unfolding load
  load-none l p s q = store-none l p (λ i. get K s (q + K.width * i))

  pub flat_append : (f g : List A) → flat K (f ++ g) ≡ flat K f ++ flat K g
  unfolding flat
  flat_append [] g = refl
  flat_append (a ∷ f) g = ap (λ (t : List Float). K.numbers a ++ t) (flat_append f g) ∙ sym (append_assoc (K.numbers a) (flat K f) (flat K g))

  flat-one : (a : A) → flat K (a ∷ []) ≡ K.numbers a
  unfolding flat
  flat-one a = append-nil (K.numbers a)

  pub put_one : (l : List Float) (p : ℕ) (a : A) → put K l p a ≡ store K l p (a ∷ [])
  unfolding put store
  put_one l p a = rw flat-one

  pub take-store : (n : ℕ) (l : List Float) (p : ℕ) (f : List A) → n ≤ p → take n (store K l p f) ≡ take n l
  unfolding store
  take-store n l p f h = take-write n l p (flat K f) h

  -- what is read of a part
  pub get-part : (l : List Float) (p n q : ℕ) → q + K.width ≤ n → get K (part l p n) q ≡ get K l (p + q)
  unfolding get
  get-part l p n q h = ap K.value (part-part l p n q K.width h)

  pub load_part : (l : List Float) (p n q k : ℕ) → q + K.width * k ≤ n → load K (part l p n) q k ≡ load K l (p + q) k
  unfolding load
  load_part l p n q k h =
      field-ext k _ _
      (λ i j.
      let s : K.width * i + K.width ≤ K.width * k = slot K.width i k j in
      let e : p + (q + K.width * i) ≡ p + q + K.width * i = omega arith in
      get-part l p n (q + K.width * i) (omega arith) ∙ ap (get K l) e)

  -- two fields are equal by what they hold
  pub load-ext : (l m : List Float) (p q n : ℕ) → ((i : ℕ) → i < n → get K l (p + K.width * i) ≡ get K m (q + K.width * i)) → load K l p n ≡ load K m q n
  unfolding load
  load-ext l m p q n h = field-ext n _ _ h

module _ {A : Type 0} (K : Cell A) (W : Lawful K) where
  -- ---- the numbers of a field

  pub length-flat : (f : List A) → length (flat K f) ≡ K.width * length f
  unfolding flat
  length-flat [] = sym (mul-zero K.width)
  length-flat (a ∷ f) =
      let e : length (flat K f) ≡ K.width * length f = length-flat f in
      length-append (K.numbers a) (flat K f) ∙ omega (arith, W.sized a, mul-suc K.width (length f))

  -- past the first value
  past : (a : A) (i : ℕ) → K.width * suc i ≡ length (K.numbers a) + K.width * i
  past a i = omega (arith, W.sized a, mul-suc K.width i)

  part-flat : (f : List A) (i : ℕ) (d : A) → i < length f → part (flat K f) (K.width * i) K.width ≡ K.numbers (get_or f i d)
  unfolding flat
  part-flat [] i d h = absurd (omega arith)
  part-flat (a ∷ f) zero d h = rw mul-zero (take_at (K.numbers a) (flat K f) K.width (W.sized a))
  part-flat (a ∷ f) (suc i) d h = rw (past a i) (ap (take K.width) (drop-append-add (K.numbers a) (flat K f) (K.width * i)) ∙ part-flat f i d (omega arith))

  write-flat : (f : List A) (i : ℕ) (b : A) → i < length f → write (flat K f) (K.width * i) (K.numbers b) ≡ flat K (set f i b)
  unfolding flat
  write-flat [] i b h = absurd (omega arith)
  write-flat (a ∷ f) zero b h =
      let e : length (K.numbers a) ≡ length (K.numbers b) = W.sized a ∙ sym (W.sized b) in
      rw mul-zero
      (write-front (K.numbers a ++ flat K f) (K.numbers b) (omega (arith, length-append (K.numbers a) (flat K f)))
      ∙ ap (λ (t : List Float). K.numbers b ++ t) (drop_at (K.numbers a) (flat K f) (length (K.numbers b)) e))
  write-flat (a ∷ f) (suc i) b h =
      rw (past a i) (write-past (K.numbers a) (flat K f) (K.width * i) (K.numbers b) ∙ ap (λ (t : List Float). K.numbers a ++ t) (write-flat f i b (omega arith)))

  flat-got : (l : List Float) (q : ℕ) → q + K.width ≤ length l → flat K (get K l q ∷ []) ≡ part l q K.width
  unfolding get
  flat-got l q h = flat-one K (K.value (part l q K.width)) ∙ W.forth (part l q K.width) (length_part l q K.width h)

  -- the numbers of what is loaded are those that it is loaded from
  pub flat-load : (l : List Float) (p n : ℕ) → p + K.width * n ≤ length l → flat K (load K l p n) ≡ part l p (K.width * n)
  unfolding load flat field
  flat-load l p zero h = rw mul-zero
  flat-load l p (suc n) h =
      let w : K.width * suc n ≡ K.width * n + K.width = omega (arith, mul-suc K.width n) in
      let d : drop (K.width * n) (drop p l) ≡ drop (p + K.width * n) l = drop-drop (K.width * n) p l in
      rw load-suc
      (flat_append K (load K l p n) (get K l (p + K.width * n) ∷ [])
      ∙ rw (flat-load l p n (omega arith), w, take-add, d) (ap (λ (t : List Float). part l p (K.width * n) ++ t) (flat-got l (p + K.width * n) (omega arith))))

  -- the n values from place p of l, stored from place q on: their numbers are copied
  pub store-loaded : (m : List Float) (q : ℕ) (l : List Float) (p n : ℕ) → p + K.width * n ≤ length l → q + K.width * n ≤ length m →
      store K m q (load K l p n) ≡ take q m ++ (part l p (K.width * n) ++ drop (K.width * n) (drop q m))
  unfolding store
  store-loaded m q l p n h k =
      let e : length (part l p (K.width * n)) ≡ K.width * n = length_part l p (K.width * n) h in
      rw (flat-load l p n h, drop-drop) (write-split m q (part l p (K.width * n)) (omega arith) ∙ rw e)

  -- ---- one value

  pub get-put : (l : List Float) (p : ℕ) (a : A) → p + K.width ≤ length l → get K (put K l p a) p ≡ a
  unfolding get put
  get-put l p a h =
      let e : length (K.numbers a) ≡ K.width = W.sized a in
      ap K.value (rw (← e) (part_same l p (K.numbers a) (omega arith))) ∙ W.back a

  pub put-get : (l : List Float) (p : ℕ) → p + K.width ≤ length l → put K l p (get K l p) ≡ l
  unfolding get put
  put-get l p h = rw (W.forth (part l p K.width) (length_part l p K.width h)) (write-part l p K.width)

  pub put-put : (l : List Float) (p : ℕ) (a b : A) → put K (put K l p a) p b ≡ put K l p b
  unfolding put
  put-put l p a b = write-write l p (K.numbers a) (K.numbers b) (omega (arith, W.sized a, W.sized b))

  -- ---- a field

  pub get-store : (l : List Float) (p : ℕ) (f : List A) (i : ℕ) (d : A) → i < length f → p + K.width * length f ≤ length l → get K (store K l p f) (p + K.width * i) ≡ get_or f i d
  unfolding get store
  get-store l p f i d h k =
      let s : K.width * i + K.width ≤ K.width * length f = slot K.width i (length f) h in
      let e : length (flat K f) ≡ K.width * length f = length-flat f in
      ap K.value (part-inside l p (flat K f) (K.width * i) K.width (omega arith) (omega arith) ∙ part-flat f i d h) ∙ W.back (get_or f i d)

  pub put-store : (l : List Float) (p : ℕ) (f : List A) (i : ℕ) (a : A) → i < length f → put K (store K l p f) (p + K.width * i) a ≡ store K l p (set f i a)
  unfolding put store
  put-store l p f i a h =
      let s : K.width * i + K.width ≤ K.width * length f = slot K.width i (length f) h in
      let e : length (flat K f) ≡ K.width * length f = length-flat f in
      write-inside l p (flat K f) (K.width * i) (K.numbers a) (omega (arith, W.sized a)) ∙ ap (write l p) (write-flat f i a h)

  pub store-append : (l : List Float) (p : ℕ) (f g : List A) → store K (store K l p f) (p + K.width * length f) g ≡ store K l p (f ++ g)
  unfolding store
  store-append l p f g = rw (← length-flat f, flat_append K f g) (write-append l p (flat K f) (flat K g))

  pub store-store : (l : List Float) (p : ℕ) (f g : List A) → length f ≡ length g → store K (store K l p f) p g ≡ store K l p g
  unfolding store
  store-store l p f g h = write-write l p (flat K f) (flat K g) (omega (arith, length-flat f, length-flat g, ap (λ (k : ℕ). K.width * k) h))

  pub load_store : (l : List Float) (p : ℕ) (f : List A) (n : ℕ) → length f ≡ n → p + K.width * n ≤ length l → load K (store K l p f) p n ≡ f
  unfolding load field
  load_store l p [] n e h = subst (λ (k : ℕ). load K (store K l p []) p k ≡ []) e refl
  load_store l p (a ∷ f) n e h =
      let k : length (load K (store K l p (a ∷ f)) p n) ≡ n = length-load K (store K l p (a ∷ f)) p n in
      ext_get_or a (load K (store K l p (a ∷ f)) p n) (a ∷ f) (k ∙ sym e)
      (λ i j.
      at_load K (store K l p (a ∷ f)) p n i a (omega arith)
      ∙ get-store l p (a ∷ f) i a (omega arith) (rw e h))

  pub put-end : (l : List Float) (p : ℕ) (f : List A) (n : ℕ) (a : A) → length f ≡ n → put K (store K l p f) (p + K.width * n) a ≡ store K l p (f ++ (a ∷ []))
  put-end l p f n a e = put_one K (store K l p f) (p + K.width * n) a ∙ rw (← e) (store-append l p f (a ∷ []))

  -- a turn of a loop over a field: one more value stored
  pub store-more : (l : List Float) (p n : ℕ) (g : ℕ → A) → put K (store K l p (field n g)) (p + K.width * n) (g n) ≡ store K l p (field (suc n) g)
  store-more l p n g = put-end l p (field n g) n (g n) (length-field n g) ∙ ap (store K l p) (sym (field-suc n g))

  pub map_more : (l : List Float) (p n : ℕ) (g : ℕ → A) (w : List Float) (a : A) → w ≡ store K l p (field n g) → a ≡ g n → put K w (p + K.width * n) a ≡ store K l p (field (suc n) g)
  map_more l p n g w a e h = rw (e, h) (store-more l p n g)

  -- one more value copied
  pub load-more : (l : List Float) (p : ℕ) (s : List Float) (q n : ℕ) (w : List Float) (a : A) → w ≡ store K l p (load K s q n) → a ≡ get K s (q + K.width * n) →
      put K w (p + K.width * n) a ≡ store K l p (load K s q (suc n))
  unfolding load
  load-more l p s q n w a e h = map_more l p n (λ i. get K s (q + K.width * i)) w a e h

  pub store-load : (l : List Float) (p n : ℕ) → p + K.width * n ≤ length l → store K l p (load K l p n) ≡ l
  store-load l p zero h = sym (load-none K l p l p)
  store-load l p (suc n) h =
      let e : K.width * suc n ≡ K.width * n + K.width = mul-suc K.width n in
      sym (load-more l p l p n l (get K l (p + K.width * n)) (sym (store-load l p n (omega arith))) refl) ∙ put-get l (p + K.width * n) (omega arith)

  -- a put as a store, of the field that stands there
  pub put-field : (l : List Float) (p n i : ℕ) (a : A) → i < n → p + K.width * n ≤ length l → put K l (p + K.width * i) a ≡ store K l p (set (load K l p n) i a)
  put-field l p n i a h k =
      let e : length (load K l p n) ≡ n = length-load K l p n in
      ap (λ (t : List Float). put K t (p + K.width * i) a) (sym (store-load l p n k)) ∙ put-store l p (load K l p n) i a (omega arith)

  -- a value changed where it stands: of a field that was stored, and of the field that stands there
  pub change-store : (F : A → A) (l m : List Float) (p : ℕ) (x : List A) (i : ℕ) (d : A) → m ≡ store K l p x → i < length x → p + K.width * length x ≤ length l →
      put K m (p + K.width * i) (F (get K m (p + K.width * i))) ≡ store K l p (set x i (F (get_or x i d)))
  change-store F l m p x i d e h k = rw (e, get-store l p x i d h k) (put-store l p x i (F (get_or x i d)) h)

  pub change-field : (F : A → A) (l : List Float) (p n i : ℕ) (d : A) → i < n → p + K.width * n ≤ length l →
      put K l (p + K.width * i) (F (get K l (p + K.width * i))) ≡ store K l p (set (load K l p n) i (F (get_or (load K l p n) i d)))
  change-field F l p n i d h k = rw (at_load K l p n i d h) (put-field l p n i (F (get K l (p + K.width * i))) h k)

  pub load-put : (l : List Float) (p n i : ℕ) (a : A) → i < n → p + K.width * n ≤ length l → load K (put K l (p + K.width * i) a) p n ≡ set (load K l p n) i a
  load-put l p n i a h k =
      ap (λ (t : List Float). load K t p n) (put-field l p n i a h k)
      ∙ load_store l p (set (load K l p n) i a) n (length-set (load K l p n) i a ∙ length-load K l p n) k

  pub drop-store : (m : ℕ) (l : List Float) (p : ℕ) (f : List A) → p + K.width * length f ≤ m → drop m (store K l p f) ≡ drop m l
  unfolding store
  drop-store m l p f h = drop-write m l p (flat K f) (omega (arith, length-flat f))

  pub store-whole : (l : List Float) (f : List A) → length l ≡ K.width * length f → store K l 0 f ≡ flat K f
  unfolding store
  store-whole l f h = write-whole l (flat K f) (h ∙ sym (length-flat f))

  pub load-flat : (f : List A) (n : ℕ) → length f ≡ n → load K (flat K f) 0 n ≡ f
  load-flat f n e =
      ap (λ (t : List Float). load K t 0 n) (sym (store-whole (flat K f) f (length-flat f)))
      ∙ load_store (flat K f) 0 f n e (omega (arith, length-flat f, ap (λ (k : ℕ). K.width * k) e))

-- ---- what stands elsewhere: J is read, or stored, where K's values are not

module _ {A B : Type 0} (J : Cell A) (K : Cell B) (W : Lawful K) where
  pub get-put-apart : (l : List Float) (p : ℕ) (b : B) (q : ℕ) → Apart p K.width q J.width → get J (put K l p b) q ≡ get J l q
  unfolding get put
  get-put-apart l p b q h =
      ap J.value (part_apart l p (K.numbers b) q J.width (subst (λ (k : ℕ). Apart p k q J.width) (sym (W.sized b)) h))

  pub get-store-apart : (l : List Float) (p : ℕ) (f : List B) (q : ℕ) → Apart p (K.width * length f) q J.width → get J (store K l p f) q ≡ get J l q
  unfolding get store
  get-store-apart l p f q h =
      ap J.value (part_apart l p (flat K f) q J.width (subst (λ (k : ℕ). Apart p k q J.width) (sym (length-flat K W f)) h))

  -- a slot of a field lies apart where the field does
  slot_apart : (p a q n i : ℕ) → i < n → Apart p a q (J.width * n) → Apart p a (q + J.width * i) J.width
  slot_apart p a q n i k =
      let s : J.width * i + J.width ≤ J.width * n = slot J.width i n k in
      ⊎_elim (λ (b : p + a ≤ q). inl (omega arith)) (λ (b : q + J.width * n ≤ p). inr (omega arith))

  pub load-store-apart : (l : List Float) (p : ℕ) (f : List B) (q n : ℕ) → Apart p (K.width * length f) q (J.width * n) → load J (store K l p f) q n ≡ load J l q n
  load-store-apart l p f q n h = load-ext J (store K l p f) l q q n (λ i k. get-store-apart l p f (q + J.width * i) (slot_apart p (K.width * length f) q n i k h))

  -- what a turn of a loop reads, as the buffer was before the loop: of a field that lies before, and of one whose place the loop has not passed
  pub seen-before : (l w : List Float) (p : ℕ) (f : List B) (q n i : ℕ) (d : A) → w ≡ store K l p f → q + J.width * n ≤ p → i < n → get J w (q + J.width * i) ≡ get_or (load J l q n) i d
  seen-before l w p f q n i d e h k = rw (e, at_load J l q n i d k) (get-store-apart l p f (q + J.width * i) (slot_apart p (K.width * length f) q n i k (inr h)))

  pub seen-after : (l w : List Float) (p : ℕ) (f : List B) (q n i : ℕ) (d : A) → w ≡ store K l p f → p + K.width * length f ≤ q + J.width * i → i < n →
      get J w (q + J.width * i) ≡ get_or (load J l q n) i d
  seen-after l w p f q n i d e h k = rw (e, at_load J l q n i d k) (get-store-apart l p f (q + J.width * i) (inl h))

  -- the buffer m is l with the field x stored: what is computed of the fields that m holds, and stored over x, is computed of l's and x
  pub through : (F : List A → List B → List B) (l m : List Float) (q k p n : ℕ) (x : List B) → m ≡ store K l p x → length x ≡ n → Apart p (K.width * n) q (J.width * k) →
      p + K.width * n ≤ length l → length (F (load J l q k) x) ≡ n →
      store K m p (F (load J m q k) (load K m p n)) ≡ store K l p (F (load J l q k) x)
  through F l m q k p n x e h apart fits size =
      let a : load J (store K l p x) q k ≡ load J l q k = load-store-apart l p x q k (subst (λ (j : ℕ). Apart p (K.width * j) q (J.width * k)) (sym h) apart) in
      let b : load K (store K l p x) p n ≡ x = load_store K W l p x n h fits in
      rw (e, a, b) (store-store K W l p x (F (load J l q k) x) (h ∙ sym size))

module _ {A B : Type 0} (J : Cell A) (U : Lawful J) (K : Cell B) (W : Lawful K) where
  pub put-comm : (l : List Float) (p : ℕ) (a : A) (q : ℕ) (b : B) → Apart p J.width q K.width → put K (put J l p a) q b ≡ put J (put K l q b) p a
  unfolding put
  put-comm l p a q b h = write-comm l p (J.numbers a) q (K.numbers b) (rw (U.sized, W.sized) h)

  pub store-comm : (l : List Float) (p : ℕ) (f : List A) (q : ℕ) (g : List B) → Apart p (J.width * length f) q (K.width * length g) → store K (store J l p f) q g ≡ store J (store K l q g) p f
  unfolding store
  store-comm l p f q g h = write-comm l p (flat J f) q (flat K g) (rw (length-flat J U f, length-flat K W g) h)

  pub put-store-comm : (l : List Float) (p : ℕ) (f : List A) (q : ℕ) (b : B) → Apart p (J.width * length f) q K.width → put K (store J l p f) q b ≡ store J (put K l q b) p f
  unfolding put store
  put-store-comm l p f q b h = write-comm l p (flat J f) q (K.numbers b) (rw (length-flat J U f, W.sized) h)

-- ---- numbers and vectors, as code reads and stores them

pub get-number : (l : List Float) (p : ℕ) → get number l p ≡ get_or l p nan
unfolding get
get-number l p = get_or-part l p 1 0 nan (omega arith) ∙ rw add-zero

pub put-number : (l : List Float) (p : ℕ) (a : Float) → put number l p a ≡ set l p a
unfolding put
put-number l p a = sym (set-write l p a)

-- at a field's place i, which is 1 * i past p
pub number_at : (l : List Float) (p i : ℕ) → get number l (p + 1 * i) ≡ get_or l (p + i) nan
number_at l p i = rw one-mul (get-number l (p + i))

pub number-set : (l : List Float) (p i : ℕ) (a : Float) → put number l (p + 1 * i) a ≡ set l (p + i) a
number-set l p i a = rw one-mul (put-number l (p + i) a)

pub flat-number : (f : List Float) → flat number f ≡ f
unfolding flat
flat-number [] = refl
flat-number (a ∷ f) = ap (λ (t : List Float). a ∷ t) (flat-number f)

pub store-number : (l : List Float) (p : ℕ) (f : List Float) → store number l p f ≡ write l p f
unfolding store
store-number l p f = rw flat-number

pub get-vector : (l : List Float) (p : ℕ) → get vector l p ≡ record { x = get_or l p nan; y = get_or l (p + 1) nan; z = get_or l (p + 2) nan }
unfolding get
get-vector l p =
    let a : get_or (part l p 3) 0 nan ≡ get_or l p nan = get_or-part l p 3 0 nan (omega arith) ∙ rw add-zero in
    let b : get_or (part l p 3) 1 nan ≡ get_or l (p + 1) nan = get_or-part l p 3 1 nan (omega arith) in
    let c : get_or (part l p 3) 2 nan ≡ get_or l (p + 2) nan = get_or-part l p 3 2 nan (omega arith) in
    λ i. record { x = a i; y = b i; z = c i }

pub put_vector : (l : List Float) (p : ℕ) (v : Vec3) → put vector l p v ≡ set (set (set l p v.x) (p + 1) v.y) (p + 2) v.z
unfolding put
put_vector l p v = simp towards_suc (write-sets l p (v.x ∷ v.y ∷ v.z ∷ []))
