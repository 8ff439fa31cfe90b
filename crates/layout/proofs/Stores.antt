-- Buffers that are filled piece by piece. Assumes nothing.
use Prim.Native.Nat.{ℕ, zero, suc, ◌+◌, ◌-◌, ◌*◌, ◌^◌, ◌≤◌, ◌<◌}
use mathlib.Core.Path.{◌≡◌, refl, sym, ap, ap₂, ◌∙◌}
use mathlib.Core.List.{List, [], ◌∷◌, ◌++◌, append_assoc, append-nil}
use native.Mathlib.Omega.{arith}
use native.Mathlib.Nat.{add-zero, zero-add}
use native.Mathlib.Numerals.{add-one}
use lib.ListN.{length, get_or, take, drop, length-append}
use mir.Syntax.{w64}
use mir.Val.{Fits}
use borrow.Rule.Slice.PartMut.{put_mid}
use lib.Seq.{drop-drop, length-take-le}
use lib.Ieee.{Float, nan, binary64, to_bits}
use Rattle.field.specs.Buffer.{write, part}
use Rattle.field.proofs.Buffers.{write-append, write-front, write-split, get_or-part, length_part}
use Rattle.network.specs.Network.{Content, rows}
use Rattle.network.specs.declared.Shape.{Shape}
use Rattle.layout.specs.Bytes.{bytes_of, double_bytes, run, wholes, doubles, total}
use Rattle.layout.specs.Image.{head_size, pairs, head, count_bytes, row_bytes, row_of, sizes, image}
use Rattle.std.specs.Int.{to_le_bytes}
use Rattle.layout.proofs.Numbers.{length-bytes, take-bytes, word-bytes}
use Rattle.layout.proofs.Runs.{run-suc, run-ext, length_run, length-wholes, length-doubles, length-counts, length-row, length-rows}
use Rattle.layout.proofs.Runs.{total-more, total-within, pair, length_pairs, length-head, image-parts}

-- ys stored behind xs
pub write-next : (l : List ℕ) {m left : List ℕ} (p k : ℕ) (xs ys : List ℕ) →
    m ≡ write l p xs → length xs ≡ k → left ≡ write m (p + k) ys → left ≡ write l p (xs ++ ys)
write-next l p k xs ys e h f = f ∙ rw (e, ← h) (write-append l p xs ys)

pub write-none : (l : List ℕ) (p : ℕ) → l ≡ write l p []
unfolding write
write-none l p = refl

-- ---- a number

-- the part that was lent, with the lowest bytes
pub number-stored : (l m b : List ℕ) (p n x : ℕ) → n ≤ 8 → p + n ≤ length l → b ≡ to_le_bytes w64 x → m ≡ take n b → put_mid p (p + n - p) l m ≡ write l p (bytes_of n x)
number-stored l m b p n x k h e g =
    let q : p + n - p ≡ n = omega arith in
    let f : m ≡ bytes_of n x = g ∙ ap (take n) (e ∙ word-bytes x) ∙ take-bytes n 8 x k in
    let lm : length m ≡ n = ap length f ∙ length-bytes n x in
    let r : drop n (drop p l) ≡ drop (p + length m) l = rw lm (drop-drop n p l) in
    rw (q, r) (sym (write-split l p m (omega arith)) ∙ ap (write l p) f)

pub double-stored : (l left : List ℕ) (p : ℕ) (x : Float) {b : ℕ} → b ≡ to_bits binary64 x → left ≡ write l p (bytes_of 8 b) → left ≡ write l p (double_bytes x)
double-stored l left p x e f = f ∙ ap (λ t. write l p (bytes_of 8 t)) e

-- ---- a run of pieces of one width

pub run_none : (l : List ℕ) (p : ℕ) (g : ℕ → List ℕ) → l ≡ write l p (run 0 g)
unfolding run
run_none l p g = write-none l p

module _ (l m left : List ℕ) (p i : ℕ) where
  run_more : (w : ℕ) (g : ℕ → List ℕ) → ((j : ℕ) → length (g j) ≡ w) → m ≡ write l p (run i g) → left ≡ write m (p + w * i) (g i) → left ≡ write l p (run (i + 1) g)
  run_more w g h e f = write-next l p (w * i) (run i g) (g i) e (length_run i w g h) f ∙ ap (write l p) (rw add-one (sym (run-suc i g)))

  pub wholes-more : (ns : List ℕ) → m ≡ write l p (wholes ns 0 i) → left ≡ write m (p + 4 * i) (bytes_of 4 (get_or ns i 0)) → left ≡ write l p (wholes ns 0 (i + 1))
  wholes-more ns e f = run_more 4 (λ j. bytes_of 4 (get_or ns (0 + j) 0)) (λ j. length-bytes 4 _) e (rw zero-add f)

  pub doubles-more : (xs : List Float) → m ≡ write l p (doubles xs 0 i) → left ≡ write m (p + 8 * i) (double_bytes (get_or xs i nan)) → left ≡ write l p (doubles xs 0 (i + 1))
  doubles-more xs e f = run_more 8 (λ j. double_bytes (get_or xs (0 + j) nan)) (λ j. length-bytes 8 _) e (rw zero-add f)

  pub rows_more : (ends : List ℕ) (rays weights scales : List Float) →
      m ≡ write l p (run i (row_bytes ends rays weights scales)) → left ≡ write m (p + 48 * i) (row_bytes ends rays weights scales i) →
      left ≡ write l p (run (i + 1) (row_bytes ends rays weights scales))
  rows_more ends rays weights scales e f = run_more 48 (row_bytes ends rays weights scales) (length-row ends rays weights scales) e f

-- ---- pairs

pub pairs-none : (l : List ℕ) (p start : ℕ) (ns : List ℕ) → l ≡ write l p (pairs start (take 0 ns))
unfolding pairs
pairs-none l p start ns = write-none l p

-- where section i starts
pub start_none : (start : ℕ) (ns : List ℕ) → start ≡ start + total (take 0 ns)
unfolding total
start_none start ns = sym (add-zero start)

module _ (start : ℕ) (ns : List ℕ) (i offset : ℕ) (e : offset ≡ start + total (take i ns)) (h : i < length ns) where
  pub start-more : offset + get_or ns i 0 ≡ start + total (take (i + 1) ns)
  start-more = rw add-one (omega (arith, total-more ns i h))

  pub offset-fits : (n : ℕ) → start + total ns ≤ n → n < 2 ^ 64 → Fits w64 (offset + get_or ns i 0)
  offset-fits n a b = omega (arith, total-more ns i h, total-within ns (suc i))

pairs-snoc : (start : ℕ) (ns : List ℕ) (i : ℕ) → i < length ns → pairs start (take (suc i) ns) ≡ pairs start (take i ns) ++ pair (start + total (take i ns)) (get_or ns i 0)
unfolding pairs total
pairs-snoc start [] i h = absurd (omega arith)
pairs-snoc start (n ∷ ns) zero h = rw add-zero (append-nil (pair start n))
pairs-snoc start (n ∷ ns) (suc i) h =
    let e : start + n + total (take i ns) ≡ start + (n + total (take i ns)) = omega arith in
    ap (λ t. pair start n ++ t) (pairs-snoc (start + n) ns i (omega arith) ∙ ap (λ t. pairs (start + n) (take i ns) ++ pair t (get_or ns i 0)) e)
    ∙ sym (append_assoc (pair start n) (pairs (start + n) (take i ns)) _)

pub pairs-more : (l m left : List ℕ) (p start : ℕ) (ns : List ℕ) (i offset : ℕ) →
    m ≡ write l p (pairs start (take i ns)) → offset ≡ start + total (take i ns) → i < length ns → left ≡ write m (p + 8 * i) (pair offset (get_or ns i 0)) →
    left ≡ write l p (pairs start (take (i + 1) ns))
pairs-more l m left p start ns i offset e o h f =
    let n : length (pairs start (take i ns)) ≡ 8 * i = length_pairs start (take i ns) ∙ ap (λ t. 8 * t) (length-take-le i ns (omega arith)) in
    write-next l p (8 * i) (pairs start (take i ns)) (pair offset (get_or ns i 0)) e n f
    ∙ ap (write l p) (ap (λ t. pairs start (take i ns) ++ pair t (get_or ns i 0)) o ∙ rw add-one (sym (pairs-snoc start ns i h)))

-- ---- straight-line code

pub head-stored : (version : ℕ) (ns l a b left : List ℕ) →
    a ≡ write l 0 (bytes_of 2 version) → b ≡ write a 2 (bytes_of 2 (length ns)) → left ≡ write b 4 (pairs (head_size (length ns)) ns) → left ≡ write l 0 (head version ns)
head-stored version ns l a b left e f g =
    let vs = bytes_of 2 version in
    let ks = bytes_of 2 (length ns) in
    let n₁ = length-bytes 2 version in
    let n₂ : length (vs ++ ks) ≡ 4 = length-append vs ks ∙ ap₂ ◌+◌ n₁ (length-bytes 2 (length ns)) in
    write-next l 0 4 (vs ++ ks) _ (write-next l 0 2 vs ks e n₁ f) n₂ g ∙ ap (write l 0) (append_assoc vs ks _)

-- an image's head and sections have room
pub head-room : (s : Shape) (n : ℕ) → 52 + 48 * rows s + 24 * s.points ≤ n → head_size 4 + total (sizes s) ≤ n
unfolding total
head-room s n h = omega arith

pub counts-wholes : (s : Shape) → wholes (s.cameras ∷ s.points ∷ s.bearings ∷ s.directions ∷ []) 0 4 ≡ count_bytes s
unfolding run count_bytes
counts-wholes s = simp append_assoc

pub front-stored : (s : Shape) (l a left : List ℕ) →
    a ≡ write l 0 (head 1 (sizes s)) → left ≡ write a 36 (wholes (s.cameras ∷ s.points ∷ s.bearings ∷ s.directions ∷ []) 0 4) →
    left ≡ write l 0 (head 1 (sizes s) ++ count_bytes s)
front-stored s l a left e f = write-next l 0 36 (head 1 (sizes s)) (count_bytes s) e (length-head 1 (sizes s)) (f ∙ ap (write a 36) (counts-wholes s))

-- the numbers of a part
wholes-part : (ns : List ℕ) (a n : ℕ) → a + n ≤ length ns → wholes (part ns a n) 0 (length (part ns a n)) ≡ wholes ns a n
wholes-part ns a n h = rw (length_part ns a n h) (run-ext n _ _ (λ i q. rw zero-add (ap (bytes_of 4) (get_or-part ns a n i 0 q))))

doubles-part : (xs : List Float) (a n : ℕ) → a + n ≤ length xs → doubles (part xs a n) 0 (length (part xs a n)) ≡ doubles xs a n
doubles-part xs a n h = rw (length_part xs a n h) (run-ext n _ _ (λ i q. rw zero-add (ap double_bytes (get_or-part xs a n i nan q))))

doubles-one : (xs : List Float) (a : ℕ) → double_bytes (get_or xs a nan) ≡ doubles xs a 1
unfolding run
doubles-one xs a = rw add-zero refl

pub row-stored : (ends : List ℕ) (rays weights scales : List Float) (l a b d left : List ℕ) (r p : ℕ) → 2 * r + 2 ≤ length ends → 3 * r + 3 ≤ length rays →
    let es = part ends (2 * r) (2 * r + 2 - 2 * r) in
    let rs = part rays (3 * r) (3 * r + 3 - 3 * r) in
    a ≡ write l p (wholes es 0 (length es)) → b ≡ write a (p + 8) (doubles rs 0 (length rs)) →
    d ≡ write b (p + 32) (double_bytes (get_or weights r nan)) → left ≡ write d (p + 40) (double_bytes (get_or scales r nan)) →
    left ≡ write l p (row_bytes ends rays weights scales r)
unfolding row_bytes
row-stored ends rays weights scales l a b d left r p x y e h f g =
    let es = wholes ends (2 * r) 2 in
    let rs = doubles rays (3 * r) 3 in
    let ws = doubles weights r 1 in
    let k₂ : 2 * r + 2 - 2 * r ≡ 2 = omega arith in
    let k₃ : 3 * r + 3 - 3 * r ≡ 3 = omega arith in
    let n₀ = length-wholes ends (2 * r) 2 in
    let n₁ : length (es ++ rs) ≡ 32 = length-append es rs ∙ ap₂ ◌+◌ n₀ (length-doubles rays (3 * r) 3) in
    let n₂ : length ((es ++ rs) ++ ws) ≡ 40 = length-append (es ++ rs) ws ∙ ap₂ ◌+◌ n₁ (length-doubles weights r 1) in
    let e' : a ≡ write l p es = rw (k₂, wholes-part ends (2 * r) 2 x) at e in
    let h' : b ≡ write a (p + 8) rs = rw (k₃, doubles-part rays (3 * r) 3 y) at h in
    let f' : d ≡ write b (p + 32) ws = f ∙ ap (write b (p + 32)) (doubles-one weights r) in
    let g' : left ≡ write d (p + 40) (doubles scales r 1) = g ∙ ap (write d (p + 40)) (doubles-one scales r) in
    let q = write-next l p 8 es rs e' n₀ h' in
    write-next l p 40 ((es ++ rs) ++ ws) (doubles scales r 1) (write-next l p 32 (es ++ rs) ws q n₁ f') n₂ g' ∙ ap (write l p) (simp append_assoc)

pub image-stored : (c : Content) (l a b left : List ℕ) →
    a ≡ write l 0 (head 1 (sizes c.shape) ++ count_bytes c.shape) →
    b ≡ write a 52 (run (rows c.shape) (row_of c)) →
    left ≡ write b (52 + 48 * rows c.shape) (doubles c.positions 0 (3 * c.shape.points)) →
    left ≡ write l 0 (image c)
image-stored c l a b left e f g =
    let xs = head 1 (sizes c.shape) in
    let cs = count_bytes c.shape in
    let rs = run (rows c.shape) (row_of c) in
    let ps = doubles c.positions 0 (3 * c.shape.points) in
    let n₁ : length (xs ++ cs) ≡ 52 = length-append xs cs ∙ ap₂ ◌+◌ (length-head 1 (sizes c.shape)) (length-counts c.shape) in
    let n₂ : length ((xs ++ cs) ++ rs) ≡ 52 + 48 * rows c.shape = length-append (xs ++ cs) rs ∙ ap₂ ◌+◌ n₁ (length-rows c) in
    write-next l 0 (52 + 48 * rows c.shape) ((xs ++ cs) ++ rs) ps (write-next l 0 52 (xs ++ cs) rs e n₁ f) n₂ (rw zero-add g)
    ∙ ap (write l 0) (append_assoc (xs ++ cs) rs ps ∙ append_assoc xs cs (rs ++ ps) ∙ sym (image-parts c))

-- the image at the front, what stood behind it untouched
pub image-front : (c : Content) (held m : List ℕ) → m ≡ write held 0 (image c) → length (image c) ≤ length held → m ≡ image c ++ drop (length (image c)) held
image-front c held m e h = e ∙ write-front held (image c) h
