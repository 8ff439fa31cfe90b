-- Laws of lines of numbers. Assumes nothing.
use Rattle.std.proofs.Common.{Option}
use mathlib.Core.Path.{◌≡◌, refl, sym, ap, ◌∙◌}
use mathlib.Core.List.{List, [], ◌∷◌, ◌++◌, map, map-append}
use mathlib.Core.Bool.{Bool, true, false, ◌&&◌, and-true, and_assoc}
use Prim.Native.Nat.{ℕ, suc, ◌+◌, ◌≤◌, ◌<◌}
use native.Mathlib.Numerals.{add-one}
use native.Mathlib.Omega.{arith}
use lib.Dec.{eqb}
use lib.ListN.{length, get_or, set, take, length-map, get_or-map}
use lib.Seq.{take-suc, length-take-le, take-length}
use lib.Ieee.{Float, nan, inf, fin, binary64, of_bits, div, neg, to_bits}
use Rattle.double.specs.declared.Decoded.{Decoded}
use Rattle.double.specs.declared.Decoded.TheVariants.{Finite, Infinite, NotANumber}
use Rattle.double.specs.Double.{sorted, decoded}
use Rattle.field.specs.Buffer.{write}
use Rattle.field.proofs.Buffers.{write-append, set-write, length-write, write-whole}
use Rattle.records.specs.declared.text.Text.{Text}
use Rattle.records.specs.Records.{Number, moved, Took, Met, stepped, number_at, LineRead, alike, compared, worded, decimal_at, hex_at, past, values, WholesRead, RealsRead, reals_compared}
use Rattle.records.proofs.Reading.{text-is, text-input, text-at}
use Rattle.field.specs.Count.{field}
use Rattle.field.proofs.Counting.{field-suc, length-field}

-- ---- the double of 64 bits

finite-is : (f x : Float) → sorted f ≡ Finite x → x ≡ f
finite-is nan x e = cc
finite-is (inf s) x e = cc
finite-is (fin s m k) x e = cc

infinite-is : (f : Float) (s : Bool) → sorted f ≡ Infinite s → inf s ≡ f
infinite-is nan t e = cc
infinite-is (inf s) t e = cc
infinite-is (fin s m k) t e = cc

nan_is : (f : Float) → sorted f ≡ NotANumber → nan ≡ f
nan_is nan e = refl
nan_is (inf s) e = cc
nan_is (fin s m k) e = cc

module _ (b : ℕ) {d : Decoded} (e : d ≡ decoded b) where
  pub real-finite : (x : Float) → d ≡ Finite x → x ≡ of_bits binary64 b
  unfolding decoded
  real-finite x h = finite-is (of_bits binary64 b) x (sym e ∙ h)

  pub real-below : (s : Bool) → d ≡ Infinite s → s ≡ true → div binary64 (neg (of_bits binary64 0x3ff0000000000000)) (of_bits binary64 0) ≡ of_bits binary64 b
  unfolding decoded div neg of_bits
  real-below s h t = rw t at (infinite-is (of_bits binary64 b) s (sym e ∙ h))

  pub real-above : (s : Bool) → d ≡ Infinite s → s ≡ false → div binary64 (of_bits binary64 0x3ff0000000000000) (of_bits binary64 0) ≡ of_bits binary64 b
  unfolding decoded div of_bits
  real-above s h t = rw t at (infinite-is (of_bits binary64 b) s (sym e ∙ h))

  pub real-nan : d ≡ NotANumber → div binary64 (of_bits binary64 0) (of_bits binary64 0) ≡ of_bits binary64 b
  unfolding decoded div of_bits
  real-nan h = nan_is (of_bits binary64 b) (sym e ∙ h)

-- ---- numbers in a row

module _ (read : Option ℕ → Number) (p : Option ℕ) where
  past-none : p ≡ past read p 0
  unfolding past
  past-none = refl

  past_more : (i : ℕ) (q : Option ℕ) (k : Number) → q ≡ past read p i → k ≡ read q → k.next ≡ past read p (i + 1)
  unfolding past
  past_more i q k e f = rw (add-one, f, e)

  values-suc : (i : ℕ) → values read p (suc i) ≡ values read p i ++ ((read (past read p i)).value ∷ [])
  unfolding values
  values-suc i = field-suc i (λ j. (read (past read p j)).value)

  values-none : values read p 0 ≡ []
  unfolding values field
  values-none = refl

  length-values : (i : ℕ) → length (values read p i) ≡ i
  unfolding values
  length-values i = length-field i (λ j. (read (past read p j)).value)

  values-more : (i : ℕ) (q : Option ℕ) (k : Number) → q ≡ past read p i → k ≡ read q → values read p (i + 1) ≡ values read p i ++ (k.value ∷ [])
  values-more i q k e f = rw (add-one, f, e) (values-suc i)

-- ---- a list that is filled, and compared

write-one : {A : Type 0} (l w : List A) (i : ℕ) (xs : List A) (x : A) → length xs ≡ i → w ≡ write l 0 xs → set w i x ≡ write l 0 (xs ++ (x ∷ []))
write-one l w i xs x n e =
    let z : 0 + length xs ≡ length xs = omega arith in
    rw (e, ← n, set-write) (rw z at (write-append l 0 xs (x ∷ [])))

alike-snoc : (xs ys : List ℕ) (x y : ℕ) → length xs ≡ length ys → alike (xs ++ (x ∷ [])) (ys ++ (y ∷ [])) ≡ alike xs ys && eqb x y
unfolding alike
alike-snoc [] [] x y n = and-true (eqb x y)
alike-snoc [] (b ∷ ys) x y n = absurd (omega arith)
alike-snoc (a ∷ xs) [] x y n = absurd (omega arith)
alike-snoc (a ∷ xs) (b ∷ ys) x y n = ap (λ (t : Bool). eqb a b && t) (alike-snoc xs ys x y (omega arith)) ∙ sym (and_assoc (eqb a b) (alike xs ys) (eqb x y))

-- ---- a text that is read on: i numbers after s comes t

module _ (base least most : ℕ) (s : Text) where
  abbrev row : (i : ℕ) → List ℕ
  row i = values (number_at base least most s.input.now) s.at i

  pub reach-none : s ≡ moved s (past (number_at base least most s.input.now) s.at 0)
  unfolding past
  reach-none = refl

  module _ (t u : Text) (i x : ℕ) (e : t ≡ moved s (past (number_at base least most s.input.now) s.at i)) (k : Took t u (number_at base least most t.input.now t.at) x) where
    same_input : number_at base least most t.input.now t.at ≡ number_at base least most s.input.now t.at
    same_input = rw (text-input e)

    pub reach-more : u ≡ moved s (past (number_at base least most s.input.now) s.at (i + 1))
    reach-more =
        text-is (text-input k.next ∙ text-input e)
        (text-at k.next ∙ past_more (number_at base least most s.input.now) s.at i t.at (number_at base least most t.input.now t.at) (text-at e) same_input)

    row-more : row (i + 1) ≡ row i ++ (x ∷ [])
    row-more =
        values-more (number_at base least most s.input.now) s.at i t.at (number_at base least most t.input.now t.at) (text-at e) same_input
        ∙ rw k.value

    pub wholes-more : (l w : List ℕ) → w ≡ write l 0 (row i) → set w i x ≡ write l 0 (row (i + 1))
    wholes-more l w g = write-one l w i (row i) x (length-values (number_at base least most s.input.now) s.at i) g ∙ ap (write l 0) (sym row-more)

    pub reals-more : (l w : List Float) (y : Float) → w ≡ write l 0 (map (of_bits binary64) (row i)) → y ≡ of_bits binary64 x →
        set w i y ≡ write l 0 (map (of_bits binary64) (row (i + 1)))
    reals-more l w y g b =
        write-one l w i (map (of_bits binary64) (row i)) y (length-map (row i) (of_bits binary64) ∙ length-values (number_at base least most s.input.now) s.at i) g
        ∙ rw (row-more, map-append, b)

    -- d is what a read past the end would give
    pub alike-more : (ys : List ℕ) (b : Bool) (d : ℕ) → i < length ys → b ≡ alike (row i) (take i ys) → (b && eqb x (get_or ys i d)) ≡ alike (row (i + 1)) (take (i + 1) ys)
    alike-more ys b d l g =
        let n : length (take i ys) ≡ i = length-take-le i ys (omega arith) in
        let m : take (i + 1) ys ≡ take i ys ++ (get_or ys i d ∷ []) = rw add-one (take-suc ys i d l) in
        rw (g, m, row-more) (sym (alike-snoc (row i) (take i ys) x (get_or ys i d) (length-values (number_at base least most s.input.now) s.at i ∙ sym n)))

    pub bits-more : (xs : List Float) (b : Bool) (y : ℕ) (d : Float) → i < length xs → b ≡ alike (row i) (take i (map (to_bits binary64) xs)) → y ≡ to_bits binary64 (get_or xs i d) →
        (b && eqb x y) ≡ alike (row (i + 1)) (take (i + 1) (map (to_bits binary64) xs))
    bits-more xs b y d l g h =
        let n : length (map (to_bits binary64) xs) ≡ length xs = length-map xs (to_bits binary64) in
        rw (h, ← (get_or-map (to_bits binary64) xs i d)) (alike-more (map (to_bits binary64) xs) b (to_bits binary64 d) (omega arith) g)

  pub wholes-none : (l : List ℕ) → l ≡ write l 0 (row 0)
  unfolding write
  wholes-none l = rw (values-none (number_at base least most s.input.now) s.at)

  pub reals-none : (l : List Float) → l ≡ write l 0 (map (of_bits binary64) (row 0))
  unfolding write
  reals-none l = rw (values-none (number_at base least most s.input.now) s.at)

  pub alike-none : (ys : List ℕ) → true ≡ alike (row 0) (take 0 ys)
  unfolding alike
  alike-none ys = rw (values-none (number_at base least most s.input.now) s.at)

  -- the end of the line
  module _ (t u : Text) (i : ℕ) (e : t ≡ moved s (past (number_at base least most s.input.now) s.at i)) (h : u ≡ moved t (stepped t.input.now t.at 10)) where
    row-end : (n : ℕ) → i ≡ n → u ≡ moved s (stepped s.input.now (past (number_at base least most s.input.now) s.at n) 10)
    row-end n j = h ∙ rw (e, j)

    pub row-met : (ys : List ℕ) (b : Bool) → i ≤ length ys → length ys ≤ i → b ≡ alike (row i) (take i ys) → Met s u (compared s.input.now (number_at base least most s.input.now) s.at ys) b
    row-met ys b l m g =
        let n : i ≡ length ys = omega arith in
        record { value = rw (g, n, take-length); next = row-end (length ys) n }

    line_read : {A : Type 0} (shown : List ℕ → List A) (before after : List A) → length (shown (row i)) ≡ i → after ≡ write before 0 (shown (row i)) → i ≤ length after → length after ≤ i →
        LineRead s u (number_at base least most s.input.now) s.at (λ n. shown (row n)) before after
    line_read shown before after z g l m =
        let j : length after ≡ length before = rw g (length-write before 0 (shown (row i))) in
        let n : i ≡ length before = omega arith in
        record { stored = g ∙ write-whole before (shown (row i)) (omega arith) ∙ rw n; next = row-end (length before) n }

-- a line after its word: f is the text before it
module _ (f s t u : Text) (word : List ℕ) (i : ℕ) (w : s ≡ moved f (worded f.input.now f.at word)) where
  pub wholes-read : (before after : List ℕ) → t ≡ moved s (past (decimal_at s.input.now) s.at i) → u ≡ moved t (stepped t.input.now t.at 10) →
      after ≡ write before 0 (values (decimal_at s.input.now) s.at i) → i ≤ length after → length after ≤ i → WholesRead f u word before after
  wholes-read before after e h g l m =
      let r = line_read 10 1 19 s t u i e h (λ n. n) before after (length-values (decimal_at s.input.now) s.at i) g l m in
      record { stored = rw w at r.stored; next = rw w at r.next }

  pub reals-read : (before after : List Float) → t ≡ moved s (past (hex_at s.input.now) s.at i) → u ≡ moved t (stepped t.input.now t.at 10) →
      after ≡ write before 0 (map (of_bits binary64) (values (hex_at s.input.now) s.at i)) → i ≤ length after → length after ≤ i → RealsRead f u word before after
  reals-read before after e h g l m =
      let r = line_read 16 16 16 s t u i e h (map (of_bits binary64)) before after (length-map (values (hex_at s.input.now) s.at i) (of_bits binary64) ∙ length-values (hex_at s.input.now) s.at i) g l m in
      record { stored = rw w at r.stored; next = rw w at r.next }

  pub bits-met : (xs : List Float) (b : Bool) → t ≡ moved s (past (hex_at s.input.now) s.at i) → u ≡ moved t (stepped t.input.now t.at 10) → i ≤ length xs → length xs ≤ i →
      b ≡ alike (values (hex_at s.input.now) s.at i) (take i (map (to_bits binary64) xs)) → Met f u (reals_compared f.input.now f.at word xs) b
  bits-met xs b e h l m g =
      let n : length (map (to_bits binary64) xs) ≡ length xs = length-map xs (to_bits binary64) in
      let r = row-met 16 16 16 s t u i e h (map (to_bits binary64) xs) b (omega arith) (omega arith) g in
      record { value = rw w at r.value; next = rw w at r.next }
