-- What is written reads back the same, and what is read writes back to its own bytes: of the definitions. Assumes nothing.
use Prim.Native.Nat.{ℕ, ◌+◌, ◌*◌, ◌/◌, ◌%◌, ◌≤◌, ◌<◌}
use mathlib.Core.Path.{◌≡◌, refl, sym, ap, ap₂, ◌∙◌}
use mathlib.Core.List.{List, [], ◌++◌, ◌∷◌}
use mathlib.Core.Bool.{true, not, false≢true}
use native.Mathlib.Omega.{arith}
use native.Mathlib.Nat.{add-zero, zero-add}
use lib.ListN.{length, get_or}
use lib.Dec.{T}
use lib.Ieee.{Float, nan, inf, fin, is_nan}
use lib.Ieee.Scale.{finite}
use Rattle.field.specs.Buffer.{part}
use Rattle.field.proofs.Counting.{field-ext, field-get_or}
use Rattle.network.specs.Network.{Content, rows}
use Rattle.network.specs.declared.Shape.{Shape}
use Rattle.network.specs.inner.Sound.{ShapeSound, ContentLengths}
use Rattle.layout.specs.Bytes.{AreBytes, AreDoubles, bytes_of, u32_at, double_bytes, run, wholes, doubles}
use Rattle.layout.specs.Image.{head, count_bytes, row_bytes, row_of, sections, sizes, assembled, image}
use Rattle.layout.proofs.Numbers.{length-bytes, bytes-number, number-bytes, double-bytes, bytes-double}
use Rattle.layout.proofs.Runs.{part-add, part_left, part_right, run-ext, part-run, part-piece, run-parts, length-wholes, length-doubles}
use Rattle.layout.proofs.Runs.{length-row, length-counts, length-rows, rest, image-parts, length-head, length-image}
use Rattle.layout.proofs.Stores.{counts-wholes}
use Rattle.image.specs.Reading.{offset_at, length_at, shape_at, spread, wholes_from, doubles_from, ends_from, rays_from, weights_from, scales_from, points_from, content_from, content_of}
use Rattle.image.specs.Calls.{HoldsDoubles}
use Rattle.image.specs.inner.Sound.{ImageSound, Readable, ContentReadable}
use Rattle.image.proofs.Heads.{start_first, offsets-right, start-step}
use Rattle.image.proofs.Assembled.{cut, assembled-back}
use Rattle.image.proofs.Domain.{double-read, whole-read}

-- ---- what stands in the bytes of a row

-- number j of some, and double j
piece-whole : (ns : List ℕ) (a n j : ℕ) → j < n → part (wholes ns a n) (4 * j) 4 ≡ bytes_of 4 (get_or ns (a + j) 0)
piece-whole ns a n j h = part-piece n 4 (λ i. bytes_of 4 (get_or ns (a + i) 0)) j (λ i. length-bytes 4 _) h

piece-double : (xs : List Float) (a n j : ℕ) → j < n → part (doubles xs a n) (8 * j) 8 ≡ double_bytes (get_or xs (a + j) nan)
piece-double xs a n j h = part-piece n 8 (λ i. double_bytes (get_or xs (a + i) nan)) j (λ i. length-bytes 8 _) h

module _ (ends : List ℕ) (rays weights scales : List Float) (r : ℕ) where
  row_ends : (j : ℕ) → j < 2 → part (row_bytes ends rays weights scales r) (4 * j) 4 ≡ bytes_of 4 (get_or ends (2 * r + j) 0)
  unfolding row_bytes
  row_ends j h = part_left (wholes ends (2 * r) 2) _ (4 * j) 4 (omega (arith, length-wholes ends (2 * r) 2)) ∙ piece-whole ends (2 * r) 2 j h

  behind-ends : (o n : ℕ) → part (row_bytes ends rays weights scales r) (8 + o) n ≡ part (doubles rays (3 * r) 3 ++ (doubles weights r 1 ++ doubles scales r 1)) o n
  unfolding row_bytes
  behind-ends o n = part_right (wholes ends (2 * r) 2) _ 8 o n (length-wholes ends (2 * r) 2)

  row-rays : (j : ℕ) → j < 3 → part (row_bytes ends rays weights scales r) (8 + 8 * j) 8 ≡ double_bytes (get_or rays (3 * r + j) nan)
  row-rays j h =
      let rs = doubles rays (3 * r) 3 in
      behind-ends (8 * j) 8 ∙ part_left rs _ (8 * j) 8 (omega (arith, length-doubles rays (3 * r) 3)) ∙ piece-double rays (3 * r) 3 j h

  behind-rays : (o n : ℕ) → part (row_bytes ends rays weights scales r) (32 + o) n ≡ part (doubles weights r 1 ++ doubles scales r 1) o n
  behind-rays o n =
      let e : 32 + o ≡ 8 + (24 + o) = omega arith in
      ap (λ t. part (row_bytes ends rays weights scales r) t n) e ∙ behind-ends (24 + o) n ∙ part_right (doubles rays (3 * r) 3) _ 24 o n (length-doubles rays (3 * r) 3)

  row-weight : part (row_bytes ends rays weights scales r) 32 8 ≡ double_bytes (get_or weights r nan)
  row-weight =
      behind-rays 0 8
      ∙ part_left (doubles weights r 1) _ 0 8 (omega (arith, length-doubles weights r 1))
      ∙ piece-double weights r 1 0 (omega arith)
      ∙ ap (λ t. double_bytes (get_or weights t nan)) (add-zero r)

  row-scale : part (row_bytes ends rays weights scales r) 40 8 ≡ double_bytes (get_or scales r nan)
  row-scale =
      behind-rays 8 8
      ∙ part_right (doubles weights r 1) _ 8 0 8 (length-doubles weights r 1)
      ∙ piece-double scales r 1 0 (omega arith)
      ∙ ap (λ t. double_bytes (get_or scales t nan)) (add-zero r)

-- ---- written, then read

module _ (c : Content) (counts-ok : ShapeSound c.shape) where
  behind-head : (o n : ℕ) → part (image c) (36 + o) n ≡ part (rest c) o n
  behind-head o n =
      let xs = head 1 (sizes c.shape) in
      ap (λ t. part t (36 + o) n) (image-parts c) ∙ part_right xs (rest c) 36 o n (length-head 1 (sizes c.shape))

  behind-counts : (o n : ℕ) → part (image c) (52 + o) n ≡ part (run (rows c.shape) (row_of c) ++ doubles c.positions 0 (3 * c.shape.points)) o n
  behind-counts o n =
      let e : 52 + o ≡ 36 + (16 + o) = omega arith in
      ap (λ t. part (image c) t n) e ∙ behind-head (16 + o) n ∙ part_right (count_bytes c.shape) _ 16 o n (length-counts c.shape)

  in_row : (p r o n : ℕ) → r < rows c.shape → o + n ≤ 48 → p ≡ 52 + (48 * r + o) → part (image c) p n ≡ part (row_of c r) o n
  in_row p r o n h k e =
      ap (λ t. part (image c) t n) e
      ∙ behind-counts (48 * r + o) n
      ∙ part_left (run (rows c.shape) (row_of c)) _ (48 * r + o) n (omega (arith, length-rows c))
      ∙ part-run (rows c.shape) 48 (row_of c) r o n (length-row c.ends c.rays c.weights c.scales) h k

  in-points : (p k : ℕ) → k < 3 * c.shape.points → p ≡ 52 + (48 * rows c.shape + 8 * k) → part (image c) p 8 ≡ double_bytes (get_or c.positions k nan)
  in-points p k h e =
      ap (λ t. part (image c) t 8) e
      ∙ behind-counts (48 * rows c.shape + 8 * k) 8
      ∙ part_right (run (rows c.shape) (row_of c)) _ (48 * rows c.shape) (8 * k) 8 (length-rows c)
      ∙ piece-double c.positions 0 (3 * c.shape.points) k h
      ∙ ap (λ t. double_bytes (get_or c.positions t nan)) (zero-add k)

  -- count j of the four
  pub shape-back : shape_at 36 (image c) ≡ c.shape
  shape-back =
      let s = c.shape in
      let ns = s.cameras ∷ s.points ∷ s.bearings ∷ s.directions ∷ [] in
      let count : (j : ℕ) → j < 4 → get_or ns (0 + j) 0 < 0x1_0000_0000 → u32_at (image c) (36 + 4 * j) ≡ get_or ns (0 + j) 0 = λ j h k.
      number-bytes 4 (image c) (36 + 4 * j) (get_or ns (0 + j) 0) (omega (arith, length-image c))
      (behind-head (4 * j) 4
      ∙ part_left (count_bytes s) _ (4 * j) 4 (omega (arith, length-counts s))
      ∙ ap (λ t. part t (4 * j) 4) (sym (counts-wholes s))
      ∙ piece-whole ns 0 4 j h)
      k in
      let n : u32_at (image c) 36 ≡ s.cameras = count 0 (omega arith) (omega arith) in
      let m : u32_at (image c) 40 ≡ s.points = count 1 (omega arith) (omega arith) in
      let b : u32_at (image c) 44 ≡ s.bearings = count 2 (omega arith) (omega arith) in
      let e : u32_at (image c) 48 ≡ s.directions = count 3 (omega arith) (omega arith) in
      rw (n, m, b, e) refl

  module _ (lengths-ok : ContentLengths c.shape c.ends c.rays c.weights c.scales c.positions) where
    -- a list of doubles
    list_back : (start stride group n : ℕ) (l : List Float) → length l ≡ n → AreDoubles l → ((k : ℕ) → k < n → spread start stride 8 group k + 8 ≤ length (image c)) →
        ((k : ℕ) → k < n → part (image c) (spread start stride 8 group k) 8 ≡ double_bytes (get_or l k nan)) → doubles_from start stride group n (image c) ≡ l
    unfolding doubles_from
    list_back start stride group n l e d h f =
        field-ext n _ _ (λ k q. double-bytes (image c) (spread start stride 8 group k) (get_or l k nan) (h k q) (d k) (f k q)) ∙ field-get_or nan l n e

    module _ (doubles-ok : HoldsDoubles c) where
      rays-back : rays_from 52 (rows c.shape) (image c) ≡ c.rays
      rays-back = list_back 60 48 3 (3 * rows c.shape) c.rays lengths-ok.domain.rays doubles-ok.rays (λ k q. omega (arith, length-image c)) at
        where
          at : (k : ℕ) → k < 3 * rows c.shape → part (image c) (spread 60 48 8 3 k) 8 ≡ double_bytes (get_or c.rays k nan)
          at k q =
              let e : 3 * (k / 3) + k % 3 ≡ k = omega arith in
              in_row (spread 60 48 8 3 k) (k / 3) (8 + 8 * (k % 3)) 8 (omega arith) (omega arith) (omega arith)
              ∙ row-rays c.ends c.rays c.weights c.scales (k / 3) (k % 3) (omega arith)
              ∙ ap (λ t. double_bytes (get_or c.rays t nan)) e

      weights-back : weights_from 52 (rows c.shape) (image c) ≡ c.weights
      weights-back =
          list_back 84 48 1 (rows c.shape) c.weights lengths-ok.domain.weights doubles-ok.weights (λ k q. omega (arith, length-image c))
          (λ k q. in_row (spread 84 48 8 1 k) k 32 8 q (omega arith) (omega arith) ∙ row-weight c.ends c.rays c.weights c.scales k)

      scales-back : scales_from 52 (rows c.shape) (image c) ≡ c.scales
      scales-back =
          list_back 92 48 1 (rows c.shape) c.scales lengths-ok.domain.scales doubles-ok.scales (λ k q. omega (arith, length-image c))
          (λ k q. in_row (spread 92 48 8 1 k) k 40 8 q (omega arith) (omega arith) ∙ row-scale c.ends c.rays c.weights c.scales k)

      points-back : points_from (52 + 48 * rows c.shape) c.shape.points (image c) ≡ c.positions
      points-back =
          let start = 52 + 48 * rows c.shape in
          list_back start 24 3 (3 * c.shape.points) c.positions lengths-ok.domain.positions doubles-ok.positions (λ k q. omega (arith, length-image c))
          (λ k q. in-points (spread start 24 8 3 k) k q (omega arith))

      module _ (ends-small : (k : ℕ) → k < 2 * rows c.shape → get_or c.ends k 0 < 0x1_0000_0000) where
        ends-back : ends_from 52 (rows c.shape) (image c) ≡ c.ends
        unfolding wholes_from
        ends-back =
            field-ext (2 * rows c.shape) _ _ (λ k q. number-bytes 4 (image c) (spread 52 48 4 2 k) (get_or c.ends k 0) (omega (arith, length-image c)) (at k q) (ends-small k q))
            ∙ field-get_or 0 c.ends (2 * rows c.shape) lengths-ok.ends
          where
            at : (k : ℕ) → k < 2 * rows c.shape → part (image c) (spread 52 48 4 2 k) 4 ≡ bytes_of 4 (get_or c.ends k 0)
            at k q =
                let e : 2 * (k / 2) + k % 2 ≡ k = omega arith in
                in_row (spread 52 48 4 2 k) (k / 2) (4 * (k % 2)) 4 (omega arith) (omega arith) (omega arith)
                ∙ row_ends c.ends c.rays c.weights c.scales (k / 2) (k % 2) (omega arith)
                ∙ ap (λ t. bytes_of 4 (get_or c.ends t 0)) e

        pub content-back : content_of (image c) ≡ c
        unfolding content_from
        content-back = ap (λ t. content_from 52 t (image c)) shape-back ∙ rw (ends-back, rays-back, weights-back, scales-back, points-back) refl

-- ---- read, then written

finite_number : (x : Float) → finite x ≡ true → T (not (is_nan x))
unfolding is_nan
finite_number nan e = absurd (false≢true e)
finite_number (inf s) e = tt
finite_number (fin s m k) e = tt

module _ (l : List ℕ) (bytes : AreBytes l) (s : Shape) (sound : ContentReadable 52 s l) where
  -- n doubles of a list that was read, from number a on, whose bytes stand from p on
  doubles-back : (start stride group n a k p : ℕ) → Readable start stride group n l → a + k ≤ n → ((j : ℕ) → j < k → spread start stride 8 group (a + j) ≡ p + 8 * j) →
      doubles (doubles_from start stride group n l) a k ≡ part l p (8 * k)
  doubles-back start stride group n a k p r h e =
      run-ext k _ (λ j. part l (p + 8 * j) 8) (λ j q.
      ap double_bytes (double-read start stride group n (a + j) l (omega arith))
      ∙ bytes-double l (spread start stride 8 group (a + j)) bytes (r.there (a + j) (omega arith)) (finite_number _ (r.number (a + j) (omega arith)))
      ∙ ap (λ t. part l t 8) (e j q))
      ∙ run-parts k 8 p l

  ends_read : (r : ℕ) → r < rows s → wholes (ends_from 52 (rows s) l) (2 * r) 2 ≡ part l (52 + 48 * r) 8
  ends_read r h =
      let there = sound.there in
      run-ext 2 _ (λ j. part l (52 + 48 * r + 4 * j) 4) (λ j q.
      let e : spread 52 48 4 2 (2 * r + j) ≡ 52 + 48 * r + 4 * j = omega arith in
      ap (bytes_of 4) (whole-read 52 48 2 (2 * rows s) (2 * r + j) l (omega arith))
      ∙ bytes-number 4 l (spread 52 48 4 2 (2 * r + j)) bytes (omega arith)
      ∙ ap (λ t. part l t 4) e)
      ∙ run-parts 2 4 (52 + 48 * r) l

  row_read : (r : ℕ) → r < rows s → row_of (content_from 52 s l) r ≡ part l (52 + 48 * r) 48
  unfolding row_bytes content_from
  row_read r h =
      ap₂ ◌++◌ (ends_read r h)
      (ap₂ ◌++◌ (doubles-back 60 48 3 (3 * rows s) (3 * r) 3 (52 + 48 * r + 8) sound.rays (omega arith) (λ j q. omega arith))
      (ap₂ ◌++◌ (doubles-back 84 48 1 (rows s) r 1 (52 + 48 * r + 32) sound.weights (omega arith) (λ j q. omega arith))
      (doubles-back 92 48 1 (rows s) r 1 (52 + 48 * r + 40) sound.scales (omega arith) (λ j q. omega arith))))
      ∙ sym (parts (52 + 48 * r))
    where
      plus : (p a b : ℕ) → p + a + b ≡ p + (a + b)
      plus p a b = omega arith

      parts : (p : ℕ) → part l p 48 ≡ part l p 8 ++ (part l (p + 8) 24 ++ (part l (p + 32) 8 ++ part l (p + 40) 8))
      parts p =
          part-add l p 8 40
          ∙ ap (λ t. part l p 8 ++ t) (part-add l (p + 8) 24 16
          ∙ ap (λ t. part l (p + 8) 24 ++ t) (ap (λ t. part l t 16) (plus p 8 24) ∙ part-add l (p + 32) 8 8 ∙ ap (λ t. part l (p + 32) 8 ++ part l t 8) (plus p 32 8)))

  rows-read : (b k : ℕ) → b + k ≤ rows s → run k (λ i. row_of (content_from 52 s l) (b + i)) ≡ part l (52 + 48 * b) (48 * k)
  rows-read b k h =
      run-ext k _ (λ i. part l (52 + 48 * b + 48 * i) 48) (λ i q.
      let e : 52 + 48 * (b + i) ≡ 52 + 48 * b + 48 * i = omega arith in
      row_read (b + i) (omega arith) ∙ ap (λ t. part l t 48) e)
      ∙ run-parts k 48 (52 + 48 * b) l

  points-read : doubles (content_from 52 s l).positions 0 (3 * s.points) ≡ part l (52 + 48 * rows s) (24 * s.points)
  unfolding content_from
  points-read =
      let e : 8 * (3 * s.points) ≡ 24 * s.points = omega arith in
      let p = 52 + 48 * rows s in
      doubles-back p 24 3 (3 * s.points) 0 (3 * s.points) p sound.positions (omega arith) (λ j q. omega arith) ∙ ap (part l p) e

  -- the sections, from their offsets and lengths on
  module _ (e : shape_at 36 l ≡ s) (image-ok : ImageSound l) where
    counts-read : count_bytes s ≡ part l 36 16
    unfolding count_bytes
    counts-read =
        let long = image-ok.size in
        rw (← e)
        (ap₂ ◌++◌ (bytes-number 4 l 36 bytes (omega arith))
        (ap₂ ◌++◌ (bytes-number 4 l 40 bytes (omega arith))
        (ap₂ ◌++◌ (bytes-number 4 l 44 bytes (omega arith)) (bytes-number 4 l 48 bytes (omega arith))))
        ∙ sym (part-add l 36 4 12 ∙ ap (λ t. part l 36 4 ++ t) (part-add l 40 4 8 ∙ ap (λ t. part l 40 4 ++ t) (part-add l 44 4 4))))

    bearings-read : run s.bearings (row_of (content_from 52 s l)) ≡ part l 52 (48 * s.bearings)
    bearings-read = run-ext s.bearings _ _ (λ i q. ap (row_of (content_from 52 s l)) (sym (zero-add i))) ∙ rows-read 0 s.bearings (omega arith)

    sections-read : sections (content_from 52 s l) ≡ cut l 0 4
    unfolding content_from
    sections-read =
        let p = image-ok.pairs in
        let n = image-ok.lengths in
        let s₀ = start_first 4 l 0 refl in
        let s₁ = start-step 4 l p 0 (omega arith) in
        let s₂ = start-step 4 l p 1 (omega arith) in
        let s₃ = start-step 4 l p 2 (omega arith) in
        let n₀ : length_at l 0 ≡ 16 = n 0 (omega arith) in
        let n₁ : length_at l 1 ≡ 48 * s.bearings = n 1 (omega arith) ∙ ap (λ (t : Shape). 48 * t.bearings) e in
        let n₂ : length_at l 2 ≡ 48 * s.directions = n 2 (omega arith) ∙ ap (λ (t : Shape). 48 * t.directions) e in
        let n₃ : length_at l 3 ≡ 24 * s.points = n 3 (omega arith) ∙ ap (λ (t : Shape). 24 * t.points) e in
        let o₀ : offset_at l 0 ≡ 36 = omega (arith, offsets-right 4 l p 0 (omega arith)) in
        let o₁ : offset_at l 1 ≡ 52 = omega (arith, offsets-right 4 l p 1 (omega arith)) in
        let o₂ : offset_at l 2 ≡ 52 + 48 * s.bearings = omega (arith, offsets-right 4 l p 2 (omega arith)) in
        let o₃ : offset_at l 3 ≡ 52 + 48 * rows s = omega (arith, offsets-right 4 l p 3 (omega arith)) in
        ap₂ ◌∷◌ (counts-read ∙ ap₂ (part l) (sym o₀) (sym n₀))
        (ap₂ ◌∷◌ (bearings-read ∙ ap₂ (part l) (sym o₁) (sym n₁))
        (ap₂ ◌∷◌ (rows-read s.bearings s.directions (omega arith) ∙ ap₂ (part l) (sym o₂) (sym n₂))
        (ap₂ ◌∷◌ (points-read ∙ ap₂ (part l) (sym o₃) (sym n₃)) refl)))

    pub image-back : image (content_from 52 s l) ≡ l
    unfolding image
    image-back = ap (assembled 1) sections-read ∙ assembled-back 1 4 l bytes image-ok.head image-ok.pairs
