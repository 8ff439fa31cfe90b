-- Any sections that are put together pass 20 and 21, and an image that passes them is put together from its sections.
-- (Over any version and any number of sections.) Assumes nothing.
use Rattle.std.proofs.Common.{None}
use Prim.Native.Nat.{ℕ, zero, suc, ◌+◌, ◌-◌, ◌*◌, ◌≤◌, ◌<◌}
use mathlib.Core.Path.{◌≡◌, refl, sym, ap, ap₂, ◌∙◌}
use mathlib.Core.List.{List, [], ◌∷◌, ◌++◌, map, append_assoc}
use mathlib.Core.Bool.{false, not}
use native.Mathlib.Omega.{arith}
use native.Mathlib.Nat.{add-zero, add_assoc}
use lib.ListN.{length, get_or, take, drop, length-append, take-append-drop}
use lib.Seq.{take_all, drop-drop, drop-length}
use borrow.Author.Tests.{le-ltb, eq-eqb}
use Rattle.field.specs.Buffer.{part}
use Rattle.field.proofs.Counting.{lowest-none}
use Rattle.field.proofs.Buffers.{length_part}
use Rattle.layout.specs.Bytes.{AreBytes, bytes_of, u16_at, total}
use Rattle.layout.specs.Image.{head_size, pairs, head, joined, assembled}
use Rattle.image.specs.Reading.{offset_at, length_at, start_of}
use Rattle.image.specs.Tests.{bad_head, bad_offset, bad_pair}
use Rattle.layout.proofs.Numbers.{length-bytes, bytes-number, number-bytes}
use Rattle.layout.proofs.Runs.{part-add, part_left, part_right, part-first, length-joined, length-head, total-more, total-within, offset-part, size-part}
use Rattle.image.proofs.Heads.{head-long, offsets-right, last-ends, start-step, starts-within, pair_end}

-- ---- put together

module _ (v : ℕ) (ls : List (List ℕ)) (small : head_size (length (map length ls)) + total (map length ls) < 0x1_0000_0000) where
  length-assembled : length (assembled v ls) ≡ head_size (length (map length ls)) + total (map length ls)
  unfolding assembled
  length-assembled = length-append (head v (map length ls)) (joined ls) ∙ ap₂ ◌+◌ (length-head v (map length ls)) (length-joined ls)

  in_head : (p n : ℕ) → p + n ≤ head_size (length (map length ls)) → part (assembled v ls) p n ≡ part (head v (map length ls)) p n
  unfolding assembled
  in_head p n h = part_left (head v (map length ls)) (joined ls) p n (omega (arith, length-head v (map length ls)))

  -- behind version and count
  in_pairs : (p n : ℕ) → p + n ≤ 8 * length (map length ls) → part (assembled v ls) (4 + p) n ≡ part (pairs (head_size (length (map length ls))) (map length ls)) p n
  in_pairs p n h =
      let ns = map length ls in
      let k = length ns in
      let e : 4 + p ≡ 2 + (2 + p) = omega arith in
      in_head (4 + p) n (omega arith)
      ∙ ap (λ t. part (head v ns) t n) e
      ∙ part_right (bytes_of 2 v) _ 2 (2 + p) n (length-bytes 2 v)
      ∙ part_right (bytes_of 2 k) (pairs (head_size k) ns) 2 p n (length-bytes 2 k)

  assembled-version : v < 0x1_0000 → u16_at (assembled v ls) 0 ≡ v
  assembled-version h = number-bytes 2 (assembled v ls) 0 v (omega (arith, length-assembled)) (in_head 0 2 (omega arith) ∙ part-first (bytes_of 2 v) _ 2 (length-bytes 2 v)) h

  assembled-count : length (map length ls) < 0x1_0000 → u16_at (assembled v ls) 2 ≡ length (map length ls)
  assembled-count h =
      let k = length (map length ls) in
      number-bytes 2 (assembled v ls) 2 k (omega (arith, length-assembled))
      (in_head 2 2 (omega arith) ∙ part_right (bytes_of 2 v) _ 2 0 2 (length-bytes 2 v) ∙ part-first (bytes_of 2 k) _ 2 (length-bytes 2 k))
      h

  pub assembled-offset : (i : ℕ) → i < length (map length ls) → offset_at (assembled v ls) i ≡ head_size (length (map length ls)) + total (take i (map length ls))
  assembled-offset i h =
      let ns = map length ls in
      let k = head_size (length ns) in
      number-bytes 4 (assembled v ls) (4 + 8 * i) (k + total (take i ns)) (omega (arith, length-assembled))
      (in_pairs (8 * i) 4 (omega arith) ∙ offset-part k ns i h)
      (omega (arith, total-within ns i))

  pub assembled-length : (i : ℕ) → i < length (map length ls) → length_at (assembled v ls) i ≡ get_or (map length ls) i 0
  assembled-length i h =
      let ns = map length ls in
      let e : 8 + 8 * i ≡ 4 + (8 * i + 4) = omega arith in
      number-bytes 4 (assembled v ls) (8 + 8 * i) (get_or ns i 0) (omega (arith, length-assembled))
      (ap (λ t. part (assembled v ls) t 4) e ∙ in_pairs (8 * i + 4) 4 (omega arith) ∙ size-part (head_size (length ns)) ns i h)
      (omega (arith, total-more ns i h, total-within ns (suc i)))

  assembled-start : (i : ℕ) → i ≤ length (map length ls) → start_of (length (map length ls)) (assembled v ls) i ≡ head_size (length (map length ls)) + total (take i (map length ls))
  unfolding start_of total
  assembled-start zero h = sym (add-zero (head_size (length (map length ls))))
  assembled-start (suc i) h = omega (arith, assembled-offset i h, assembled-length i h, total-more (map length ls) i h)

  pub assembled-head : v < 0x1_0000 → length (map length ls) < 0x1_0000 → bad_head v (length (map length ls)) (assembled v ls) ≡ false
  unfolding bad_head
  assembled-head h k =
      rw (le-ltb (length (assembled v ls)) (head_size (length (map length ls))) (omega (arith, length-assembled)), eq-eqb _ _ (assembled-version h), eq-eqb _ _ (assembled-count k))

  pub assembled-pairs : bad_pair (length (map length ls)) (assembled v ls) ≡ None
  unfolding bad_offset
  assembled-pairs =
      let ns = map length ls in
      let k = length ns in
      let right : (i : ℕ) → i < k → bad_offset k (assembled v ls) i ≡ false = λ i h. ap not (eq-eqb _ _ (assembled-offset i h ∙ sym (assembled-start i (omega arith)))) in
      let end = assembled-start k (omega arith) ∙ ap (λ t. head_size k + total t) (take_all k ns (omega arith)) ∙ sym length-assembled in
      sym (pair_end k (assembled v ls) refl _ (lowest-none (bad_offset k (assembled v ls)) k right) refl end)

-- ---- taken apart

split-head : (l : List ℕ) (n : ℕ) → l ≡ (part l 0 2 ++ (part l 2 2 ++ part l 4 n)) ++ drop (4 + n) l
split-head l n =
    sym (take-append-drop (4 + n) l)
    ∙ ap (λ t. t ++ drop (4 + n) l) (ap (part l 0) (add_assoc 2 2 n) ∙ part-add l 0 2 (2 + n) ∙ ap (λ t. part l 0 2 ++ t) (part-add l 2 2 n))

-- j sections of l from pair i on
abbrev pub cut : List ℕ → ℕ → ℕ → List (List ℕ)
cut l i zero = []
cut l i (suc j) = part l (offset_at l i) (length_at l i) ∷ cut l (suc i) j

module _ (v k : ℕ) (l : List ℕ) (bytes : AreBytes l) (head_ok : bad_head v k l ≡ false) (pair : bad_pair k l ≡ None) where
  section-length : (i : ℕ) → i < k → length (part l (offset_at l i) (length_at l i)) ≡ length_at l i
  section-length i h =
      length_part l (offset_at l i) (length_at l i)
      (omega (arith, offsets-right k l pair i h, start-step k l pair i h, starts-within k l pair (k - suc i) (suc i) (omega arith)))

  cut-pairs : (j i : ℕ) → i + j ≡ k → part l (4 + 8 * i) (8 * j) ≡ pairs (start_of k l i) (map length (cut l i j))
  unfolding pairs
  cut-pairs zero i q = refl
  cut-pairs (suc j) i q =
      let e : 8 * suc j ≡ 4 + (4 + 8 * j) = omega arith in
      let f : 4 + 8 * i + 4 ≡ 8 + 8 * i = omega arith in
      let g : 8 + 8 * i + 4 ≡ 4 + 8 * suc i = omega arith in
      let long = (head-long v k l head_ok).0 in
      ap (part l (4 + 8 * i)) e
      ∙ part-add l (4 + 8 * i) 4 (4 + 8 * j)
      ∙ ap₂ ◌++◌
      (sym (bytes-number 4 l (4 + 8 * i) bytes (omega arith)) ∙ ap (bytes_of 4) (offsets-right k l pair i (omega arith)))
      (ap (λ t. part l t (4 + 8 * j)) f
      ∙ part-add l (8 + 8 * i) 4 (8 * j)
      ∙ ap₂ ◌++◌
      (sym (bytes-number 4 l (8 + 8 * i) bytes (omega arith)) ∙ ap (bytes_of 4) (sym (section-length i (omega arith))))
      (ap (λ t. part l t (8 * j)) g
      ∙ cut-pairs j (suc i) (omega arith)
      ∙ ap (λ t. pairs t (map length (cut l (suc i) j))) (start-step k l pair i (omega arith) ∙ ap (λ t. start_of k l i + t) (sym (section-length i (omega arith))))))
      ∙ sym (append_assoc (bytes_of 4 (start_of k l i)) (bytes_of 4 (length (part l (offset_at l i) (length_at l i)))) _)

  cut-joined : (j i : ℕ) → i + j ≡ k → drop (start_of k l i) l ≡ joined (cut l i j)
  unfolding joined
  cut-joined zero i q = let e : i ≡ k = omega arith in ap (λ t. drop t l) (ap (start_of k l) e ∙ last-ends k l pair) ∙ drop-length l
  cut-joined (suc j) i q =
      sym (take-append-drop (length_at l i) (drop (start_of k l i) l))
      ∙ ap₂ ◌++◌
      (ap (λ t. part l t (length_at l i)) (sym (offsets-right k l pair i (omega arith))))
      (drop-drop (length_at l i) (start_of k l i) l ∙ ap (λ t. drop t l) (sym (start-step k l pair i (omega arith))) ∙ cut-joined j (suc i) (omega arith))

  length_cut : (j i : ℕ) → length (map length (cut l i j)) ≡ j
  length_cut zero i = refl
  length_cut (suc j) i = ap suc (length_cut j (suc i))

  pub assembled-back : assembled v (cut l 0 k) ≡ l
  unfolding assembled start_of
  assembled-back =
      let h = head-long v k l head_ok in
      rw (length_cut k 0)
      (ap₂ ◌++◌
      (ap₂ ◌++◌
      (ap (bytes_of 2) (sym h.1) ∙ bytes-number 2 l 0 bytes (omega arith))
      (ap₂ ◌++◌ (ap (bytes_of 2) (sym h.2) ∙ bytes-number 2 l 2 bytes (omega arith)) (sym (cut-pairs k 0 (omega arith)))))
      (sym (cut-joined k 0 (omega arith)))
      ∙ sym (split-head l (8 * k)))
