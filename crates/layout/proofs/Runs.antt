-- Parts of lists that are put together, and how long the parts of an image are. Assumes nothing.
use Prim.Native.Nat.{ℕ, zero, suc, ◌+◌, ◌*◌, ◌≤◌, ◌<◌}
use mathlib.Core.Path.{◌≡◌, refl, sym, ap, ap₂, ◌∙◌}
use mathlib.Core.List.{List, [], ◌∷◌, ◌++◌, map, append_assoc, append-nil}
use mathlib.Core.Logic.{⊎_elim}
use native.Mathlib.Omega.{arith}
use native.Mathlib.Nat.{add-zero, add-suc, mul-zero, mul-suc, mul-le-mul_left, eq-or-lt_of_le, le_of_suc-le-suc}
use lib.ListN.{length, get_or, take, drop, length-append, length-drop}
use lib.Seq.{take-append-le, drop-append-le, drop-append-add, take_all, take-add, drop-drop}
use lib.Ieee.{Float, nan}
use Rattle.field.specs.Buffer.{part}
use Rattle.network.specs.Network.{Content, rows}
use Rattle.network.specs.declared.Shape.{Shape}
use Rattle.layout.specs.Bytes.{bytes_of, double_bytes, run, wholes, doubles, total}
use Rattle.layout.specs.Image.{head_size, pairs, head, joined, count_bytes, row_bytes, row_of, sections, sizes, assembled, image}
use Rattle.layout.proofs.Numbers.{length-bytes}

-- ---- parts

pub part-add : (l : List ℕ) (p a b : ℕ) → part l p (a + b) ≡ part l p a ++ part l (p + a) b
part-add l p a b = take-add a b (drop p l) ∙ ap (λ t. take a (drop p l) ++ take b t) (drop-drop a p l)

pub part_left : (xs ys : List ℕ) (p n : ℕ) → p + n ≤ length xs → part (xs ++ ys) p n ≡ part xs p n
part_left xs ys p n h =
    ap (take n) (drop-append-le p xs ys (omega arith)) ∙ take-append-le n (drop p xs) ys (omega (arith, length-drop p xs))

pub part_right : (xs ys : List ℕ) (k p n : ℕ) → length xs ≡ k → part (xs ++ ys) (k + p) n ≡ part ys p n
part_right xs ys k p n e = rw (← e) (ap (take n) (drop-append-add xs ys p))

pub part-whole : (xs : List ℕ) (n : ℕ) → length xs ≡ n → part xs 0 n ≡ xs
part-whole xs n e = take_all n xs (omega arith)

pub part-first : (xs ys : List ℕ) (n : ℕ) → length xs ≡ n → part (xs ++ ys) 0 n ≡ xs
part-first xs ys n e = part_left xs ys 0 n (omega arith) ∙ part-whole xs n e

-- ---- runs

pub run-ext : (n : ℕ) (g h : ℕ → List ℕ) → ((i : ℕ) → i < n → g i ≡ h i) → run n g ≡ run n h
unfolding run
run-ext zero g h e = refl
run-ext (suc n) g h e = ap₂ ◌++◌ (run-ext n g h (λ i q. e i (omega arith))) (e n (omega arith))

pub run-suc : (n : ℕ) (g : ℕ → List ℕ) → run (suc n) g ≡ run n g ++ g n
unfolding run
run-suc n g = refl

pub run-add : (n k : ℕ) (g : ℕ → List ℕ) → run (n + k) g ≡ run n g ++ run k (λ i. g (n + i))
unfolding run
run-add n zero g = rw add-zero (sym (append-nil (run n g)))
run-add n (suc k) g = rw add-suc (ap (λ t. t ++ g (n + k)) (run-add n k g) ∙ append_assoc (run n g) (run k (λ i. g (n + i))) (g (n + k)))

pub length_run : (n w : ℕ) (g : ℕ → List ℕ) → ((i : ℕ) → length (g i) ≡ w) → length (run n g) ≡ w * n
unfolding run
length_run zero w g h = sym (mul-zero w)
length_run (suc n) w g h = length-append (run n g) (g n) ∙ ap₂ ◌+◌ (length_run n w g h) (h n) ∙ sym (mul-suc w n)

-- what stands in piece j
pub part-run : (n w : ℕ) (g : ℕ → List ℕ) (j o k : ℕ) → ((i : ℕ) → length (g i) ≡ w) → j < n → o + k ≤ w → part (run n g) (w * j + o) k ≡ part (g j) o k
unfolding run
part-run zero w g j o k h q f = absurd (omega arith)
part-run (suc n) w g j o k h q f =
    ⊎_elim
    (λ (e : j ≡ n). rw e (part_right (run n g) (g n) (w * n) o k (length_run n w g h)))
    (λ (l : j < n).
    let s : w * j + w ≤ w * n = rw (← mul-suc) (mul-le-mul_left w l) in
    part_left (run n g) (g n) (w * j + o) k (omega (arith, length_run n w g h)) ∙ part-run n w g j o k h l f)
    (eq-or-lt_of_le (le_of_suc-le-suc q))

pub part-piece : (n w : ℕ) (g : ℕ → List ℕ) (j : ℕ) → ((i : ℕ) → length (g i) ≡ w) → j < n → part (run n g) (w * j) w ≡ g j
part-piece n w g j h q = ap (λ t. part (run n g) t w) (sym (add-zero (w * j))) ∙ part-run n w g j 0 w h q (omega arith) ∙ part-whole (g j) w (h j)

-- a part in pieces of one width
pub run-parts : (k w p : ℕ) (l : List ℕ) → run k (λ j. part l (p + w * j) w) ≡ part l p (w * k)
unfolding run
run-parts zero w p l = sym (ap (part l p) (mul-zero w))
run-parts (suc k) w p l = ap (λ t. t ++ part l (p + w * k) w) (run-parts k w p l) ∙ sym (part-add l p (w * k) w) ∙ ap (part l p) (sym (mul-suc w k))

pub length-wholes : (l : List ℕ) (a k : ℕ) → length (wholes l a k) ≡ 4 * k
length-wholes l a k = length_run k 4 (λ i. bytes_of 4 (get_or l (a + i) 0)) (λ i. length-bytes 4 _)

pub length-doubles : (l : List Float) (a k : ℕ) → length (doubles l a k) ≡ 8 * k
length-doubles l a k = length_run k 8 (λ i. double_bytes (get_or l (a + i) nan)) (λ i. length-bytes 8 _)

-- ---- sums

pub total-more : (ns : List ℕ) (i : ℕ) → i < length ns → total (take (suc i) ns) ≡ total (take i ns) + get_or ns i 0
unfolding total
total-more [] i h = absurd (omega arith)
total-more (n ∷ ns) zero h = omega arith
total-more (n ∷ ns) (suc i) h = let e : total (take (suc i) ns) ≡ total (take i ns) + get_or ns i 0 = total-more ns i (omega arith) in omega arith

pub total-within : (ns : List ℕ) (i : ℕ) → total (take i ns) ≤ total ns
unfolding total
total-within ns zero = omega arith
total-within [] (suc i) = omega arith
total-within (n ∷ ns) (suc i) = let e : total (take i ns) ≤ total ns = total-within ns i in omega arith

-- ---- pairs and sections

abbrev pub pair : ℕ → ℕ → List ℕ
pair p n = bytes_of 4 p ++ bytes_of 4 n

pub length-pair : (p n : ℕ) → length (pair p n) ≡ 8
length-pair p n = length-append (bytes_of 4 p) (bytes_of 4 n) ∙ ap₂ ◌+◌ (length-bytes 4 p) (length-bytes 4 n)

pub length_pairs : (p : ℕ) (ns : List ℕ) → length (pairs p ns) ≡ 8 * length ns
unfolding pairs
length_pairs p [] = refl
length_pairs p (n ∷ ns) = length-append (pair p n) (pairs (p + n) ns) ∙ omega (arith, length-pair p n, length_pairs (p + n) ns)

-- what stands in pair i
pair-part : (p : ℕ) (ns : List ℕ) (i o k : ℕ) → i < length ns → o + k ≤ 8 → part (pairs p ns) (8 * i + o) k ≡ part (pair (p + total (take i ns)) (get_or ns i 0)) o k
unfolding pairs total
pair-part p [] i o k h q = absurd (omega arith)
pair-part p (n ∷ ns) zero o k h q =
    let e : 8 * 0 + o ≡ o = omega arith in
    rw (e, add-zero) (part_left (pair p n) (pairs (p + n) ns) o k (omega (arith, length-pair p n)))
pair-part p (n ∷ ns) (suc i) o k h q =
    let e : 8 * suc i + o ≡ 8 + (8 * i + o) = omega arith in
    let f : p + n + total (take i ns) ≡ p + (n + total (take i ns)) = omega arith in
    ap (λ t. part (pairs p (n ∷ ns)) t k) e
    ∙ part_right (pair p n) (pairs (p + n) ns) 8 (8 * i + o) k (length-pair p n)
    ∙ pair-part (p + n) ns i o k (omega arith) q
    ∙ ap (λ t. part (pair t (get_or ns i 0)) o k) f

pub offset-part : (p : ℕ) (ns : List ℕ) (i : ℕ) → i < length ns → part (pairs p ns) (8 * i) 4 ≡ bytes_of 4 (p + total (take i ns))
offset-part p ns i h =
    let x = p + total (take i ns) in
    ap (λ t. part (pairs p ns) t 4) (sym (add-zero (8 * i)))
    ∙ pair-part p ns i 0 4 h (omega arith)
    ∙ part_left (bytes_of 4 x) (bytes_of 4 (get_or ns i 0)) 0 4 (omega (arith, length-bytes 4 x))
    ∙ part-whole (bytes_of 4 x) 4 (length-bytes 4 x)

pub size-part : (p : ℕ) (ns : List ℕ) (i : ℕ) → i < length ns → part (pairs p ns) (8 * i + 4) 4 ≡ bytes_of 4 (get_or ns i 0)
size-part p ns i h =
    let x = p + total (take i ns) in
    let n = get_or ns i 0 in
    pair-part p ns i 4 4 h (omega arith)
    ∙ part_right (bytes_of 4 x) (bytes_of 4 n) 4 0 4 (length-bytes 4 x)
    ∙ part-whole (bytes_of 4 n) 4 (length-bytes 4 n)

pub length-joined : (ls : List (List ℕ)) → length (joined ls) ≡ total (map length ls)
unfolding joined total
length-joined [] = refl
length-joined (l ∷ ls) = length-append l (joined ls) ∙ ap (λ t. length l + t) (length-joined ls)

-- ---- version 1

pub length-counts : (s : Shape) → length (count_bytes s) ≡ 16
unfolding count_bytes
length-counts s =
    length-append (bytes_of 4 s.cameras) _
    ∙ ap₂ ◌+◌ (length-bytes 4 s.cameras) (length-append (bytes_of 4 s.points) _
    ∙ ap₂ ◌+◌ (length-bytes 4 s.points) (length-pair s.bearings s.directions))

module _ (ends : List ℕ) (rays weights scales : List Float) where
  pub length-row : (r : ℕ) → length (row_bytes ends rays weights scales r) ≡ 48
  unfolding row_bytes
  length-row r =
      length-append (wholes ends (2 * r) 2) _
      ∙ ap₂ ◌+◌ (length-wholes ends (2 * r) 2) (length-append (doubles rays (3 * r) 3) _
      ∙ ap₂ ◌+◌ (length-doubles rays (3 * r) 3) (length-append (doubles weights r 1) _
      ∙ ap₂ ◌+◌ (length-doubles weights r 1) (length-doubles scales r 1)))

pub length-rows : (c : Content) → length (run (rows c.shape) (row_of c)) ≡ 48 * rows c.shape
length-rows c = length_run (rows c.shape) 48 (row_of c) (length-row c.ends c.rays c.weights c.scales)

-- each section has the length that the counts say
pub section-lengths : (c : Content) → map length (sections c) ≡ sizes c.shape
section-lengths c =
    let row = length-row c.ends c.rays c.weights c.scales in
    let s = c.shape in
    let p : 8 * (3 * s.points) ≡ 24 * s.points = omega arith in
    ap₂ ◌∷◌ (length-counts s)
    (ap₂ ◌∷◌ (length_run s.bearings 48 (row_of c) row)
    (ap₂ ◌∷◌ (length_run s.directions 48 (λ i. row_of c (s.bearings + i)) (λ i. row (s.bearings + i)))
    (ap₂ ◌∷◌ (length-doubles c.positions 0 (3 * s.points) ∙ p) refl)))

-- its sections: counts, all rows, points
abbrev pub rest : Content → List ℕ
rest c = count_bytes c.shape ++ (run (rows c.shape) (row_of c) ++ doubles c.positions 0 (3 * c.shape.points))

pub length-head : (v : ℕ) (ns : List ℕ) → length (head v ns) ≡ head_size (length ns)
length-head v ns =
    let k = length ns in
    length-append (bytes_of 2 v) _
    ∙ ap₂ ◌+◌ (length-bytes 2 v) (length-append (bytes_of 2 k) _ ∙ ap₂ ◌+◌ (length-bytes 2 k) (length_pairs (head_size k) ns))
    ∙ omega arith

pub image-parts : (c : Content) → image c ≡ head 1 (sizes c.shape) ++ rest c
unfolding image assembled joined
image-parts c =
    let s = c.shape in
    let ps = doubles c.positions 0 (3 * s.points) in
    let bs = run s.bearings (row_of c) in
    let ds = run s.directions (λ i. row_of c (s.bearings + i)) in
    let e : bs ++ (ds ++ (ps ++ [])) ≡ run (rows s) (row_of c) ++ ps =
    ap (λ t. bs ++ (ds ++ t)) (append-nil ps) ∙ sym (append_assoc bs ds ps) ∙ ap (λ t. t ++ ps) (sym (run-add s.bearings s.directions (row_of c))) in
    ap₂ (λ ns t. head 1 ns ++ (count_bytes s ++ t)) (section-lengths c) e

pub length-image : (c : Content) → length (image c) ≡ 52 + 48 * rows c.shape + 24 * c.shape.points
length-image c =
    let s = c.shape in
    let rs = run (rows s) (row_of c) in
    let ps = doubles c.positions 0 (3 * s.points) in
    ap length (image-parts c)
    ∙ omega (
      arith,
      length-append (head 1 (sizes s)) (rest c),
      length-head 1 (sizes s),
      length-append (count_bytes s) (rs ++ ps),
      length-counts s,
      length-append rs ps,
      length-rows c,
      length-doubles c.positions 0 (3 * s.points),
    )
