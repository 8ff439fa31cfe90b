-- Laws of each text as it is put: from what the calls ensure. Assumes nothing.
use mathlib.Core.Path.{◌≡◌, refl, sym, ap, ◌∙◌}
use mathlib.Core.List.{List, [], ◌∷◌, ◌++◌, append-nil, append_assoc}
use mathlib.Core.Bool.{Bool, true, false}
use borrow.Author.Tests.{leb-true}
use Prim.Native.Nat.{ℕ, suc, ◌+◌, ◌-◌, ◌*◌, ◌/◌, ◌%◌, ◌^◌, ◌≤◌, ◌<◌}
use native.Mathlib.Omega.{arith}
use native.Mathlib.Nat.{add-zero, zero-add}
use native.Mathlib.Numerals.{add-one}
use lib.Dec.{leb}
use lib.Ieee.{Float, binary64, to_bits}
use lib.ListN.{length, length-append}
use Rattle.field.specs.declared.Vec3.{Vec3}
use Rattle.field.specs.Count.{field}
use Rattle.field.specs.Buffer.{get, write, load, vector, vectors_in}
use Rattle.field.proofs.Buffers.{load-suc, length-load}
use Rattle.text.specs.Text.{digit, hex, decimal, bits, spaced, vector_line, numbered, vector_lines}
use Rattle.text.specs.declared.Writer.{Writer}
use Rattle.text.specs.Lent.{PutIfRoom, room}
use Rattle.text.specs.inner.Steps.{HasRoom, Wrote}
use Rattle.text.proofs.Digits.{decimal-one, decimal-more, length-decimal, hex-more, length-hex}
use Rattle.text.proofs.Puts.{wrote-none, wrote_two, wrote_three, wrote_as}

pub hex-none : (v : Writer) (k x : ℕ) → k ≤ 0 → Wrote v v (hex k x) k
unfolding hex
hex-none v k x h = let e : k ≡ 0 = omega arith in rw e (wrote-none v 0)

pub hex-last : {u v w : Writer} (k x b : ℕ) → 0 < k →
    Wrote u v (hex (k - 1) (x / 16)) (k - 1) → b ≡ digit (x % 16) → Wrote v w (b ∷ []) 1 → Wrote u w (hex k x) k
hex-last k x b h a e c =
    wrote_as (wrote_two a (rw e at c) refl) (hex-more k x (omega arith)) (omega (arith, length-hex k x))

pub decimal-first : {v w : Writer} (x b : ℕ) → x < 10 → b ≡ digit x → Wrote v w (b ∷ []) 1 → Wrote v w (decimal x) 20
decimal-first x b h e c = wrote_as (rw e at c) (sym (decimal-one x h)) (rw (decimal-one x h) (omega arith))

-- the digits before the last leave room for it
pub decimal-room : {u v : Writer} (x : ℕ) → 10 ≤ x → x < 2 ^ 64 → Wrote u v (decimal (x / 10)) 20 → HasRoom u 20 → HasRoom v 1
decimal-room x h f a k =
    let e : length (decimal x) ≡ length (decimal (x / 10)) + 1 = ap length (decimal-more x h) ∙ length-append (decimal (x / 10)) (digit (x % 10) ∷ []) in
    omega (arith, length-decimal x f, a.next, a.long, k)

pub decimal-last : {u v w : Writer} (x b : ℕ) → 10 ≤ x → x < 2 ^ 64 →
    Wrote u v (decimal (x / 10)) 20 → b ≡ digit (x % 10) → Wrote v w (b ∷ []) 1 → Wrote u w (decimal x) 20
decimal-last x b h f a e c = wrote_as (wrote_two a (rw e at c) refl) (sym (decimal-more x h)) (length-decimal x f)

pub spaced-put : {u v w : Writer} (x : Float) (b : ℕ) → Wrote u v (32 ∷ []) 1 → b ≡ to_bits binary64 x → Wrote v w (hex 16 b) 16 → Wrote u w (spaced x) 17
unfolding spaced bits
spaced-put x b a e c = wrote_two a (rw e at c) refl

-- ---- the lines of a list of vectors

numbered-append : (tag i : ℕ) (f : List Vec3) (v : Vec3) → numbered tag i (f ++ (v ∷ [])) ≡ numbered tag i f ++ vector_line tag (i + length f) v
unfolding numbered
numbered-append tag i [] v = rw add-zero (append-nil (vector_line tag i v))
numbered-append tag i (a ∷ f) v =
    let e : suc i + length f ≡ i + suc (length f) = omega arith in
    ap (λ (t : List ℕ). vector_line tag i a ++ t) (rw e at (numbered-append tag (suc i) f v))
    ∙ sym (append_assoc (vector_line tag i a) (numbered tag (suc i) f) (vector_line tag (i + suc (length f)) v))

-- the lines of the first i vectors: none, one more, and all
pub vectors-none : (v : Writer) (tag : ℕ) (s : List Float) → Wrote v v (vector_lines tag (load vector s 0 0)) 0
unfolding vector_lines numbered load field
vectors-none v tag s = wrote-none v 0

pub vectors-more : {u v w : Writer} (tag : ℕ) (s : List Float) (i : ℕ) (a : Vec3) →
    Wrote u v (vector_lines tag (load vector s 0 i)) (74 * i) → a ≡ get vector s (3 * i) → Wrote v w (vector_line tag i a) 74 →
    Wrote u w (vector_lines tag (load vector s 0 (i + 1))) (74 * (i + 1))
unfolding vector_lines
vectors-more tag s i a x e y =
    rw (add-one, load-suc vector s 0 i, zero-add, numbered-append, zero-add, length-load vector s 0 i, ← e) (wrote_two x y (omega arith))

pub vectors-all : {v w : Writer} (tag : ℕ) (s : List Float) (i : ℕ) →
    Wrote v w (vector_lines tag (load vector s 0 i)) (74 * i) → i ≤ length s / 3 → length s / 3 ≤ i → Wrote v w (vector_lines tag (vectors_in s)) (74 * (length s / 3))
unfolding vectors_in
vectors-all tag s i a h k = let d : i ≡ length s / 3 = omega arith in rw d at a

-- the line of the counts, as two pairs of numbers and a newline
pub counts-put : {t u v w : Writer} (a b c d e : List ℕ) →
    Wrote t u (a ++ b) 56 → Wrote u v (c ++ d) 62 → Wrote v w e 1 → Wrote t w (a ++ b ++ c ++ d ++ e) 119
counts-put a b c d e x y z = rw (← append_assoc (a ++ b) c d) at (wrote_three x y z refl)

-- the lines above those of the vectors
pub head-put : {s t u v w : Writer} {a b c d : List ℕ} →
    Wrote s t a 119 → Wrote t u b 27 → Wrote u v c 83 → Wrote v w d 25 → Wrote s w (a ++ b ++ c ++ d) 254
head-put p x y z = wrote_two (wrote_three p x y refl) z refl

-- ---- a text at the front of a buffer, and what the test for room shows

pub room-shown : (v n : ℕ) (t : Bool) → t ≡ leb (room v) n → t ≡ true → room v ≤ n
room-shown v n t e h = leb-true (room v) n (sym e ∙ h)

-- the buffer l was lent to v, w is v after the text, and m is what the buffer then holds
pub put-room : (n k : ℕ) (v w : Writer) (l text m : List ℕ) (t : Bool) → t ≡ leb (room n) (length l) → t ≡ true →
    v.out.now ≡ l → v.at ≡ 0 → Wrote v w text k → k ≤ room n → (v.out.ghost_name ≡ w.out.ghost_name → m ≡ w.out.now) →
    PutIfRoom l m n text w.at
put-room n k v w l text m t e h d z a i f =
    rw (← e, h, f (sym a.same))
    (record { written = record { bytes = rw (d, z) at a.bytes; next = rw z at a.next }; within = omega (arith, a.within, room-shown n (length l) t e h) })

pub put-no-room : (v : ℕ) (l text : List ℕ) (t : Bool) → t ≡ leb (room v) (length l) → t ≡ false → PutIfRoom l l v text 0
unfolding write
put-no-room v l text t e h = rw (← e, h) (record { written = record { bytes = refl; next = refl }; within = omega arith })
