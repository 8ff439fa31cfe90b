-- Laws of `Wrote`: texts written one after another, and the test for room. Assumes nothing.
use mathlib.Core.Path.{◌≡◌, refl, sym, ap, ◌∙◌}
use mathlib.Core.List.{List, [], ◌++◌}
use Prim.Native.Nat.{ℕ, ◌+◌, ◌-◌, ◌*◌, ◌/◌, ◌≤◌, ◌<◌}
use native.Mathlib.Nat.{add-zero}
use native.Mathlib.Omega.{arith}
use mathlib.Core.Bool.{Bool, true, false}
use lib.Dec.{leb}
use borrow.Author.Tests.{le-leb, lt-leb, leb-true, leb-false}
use lib.ListN.{length, length-append}
use lib.Seq.{drop-drop}
use Rattle.field.specs.Buffer.{write}
use Rattle.field.proofs.Buffers.{write-append, write-split}
use borrow.Rule.Slice.PartMut.{put_mid}
use Rattle.text.specs.declared.Writer.{Writer}
use Rattle.text.specs.inner.Steps.{Wrote}

-- nothing written
pub wrote-none : (v : Writer) (k : ℕ) → Wrote v v [] k
unfolding write
wrote-none v k = record { same = refl; long = refl; bytes = refl; next = sym (add-zero v.at); within = omega arith }

-- two texts, and three
pub wrote_two : {u v w : Writer} {j k n : ℕ} {a b : List ℕ} → Wrote u v a j → Wrote v w b k → j + k ≡ n → Wrote u w (a ++ b) n
wrote_two {u} {v} {w} {j} {k} {n} {a} {b} x y h =
    record {
      same = y.same ∙ x.same;
      long = y.long ∙ x.long;
      bytes = rw (y.bytes, x.bytes, x.next) (write-append u.out.now u.at a b);
      next = rw length-append (omega (arith, x.next, y.next));
      within = omega (arith, x.within, y.within);
    }

pub wrote_three : {t u v w : Writer} {i j k n : ℕ} {a b c : List ℕ} →
    Wrote t u a i → Wrote u v b j → Wrote v w c k → i + j + k ≡ n → Wrote t w (a ++ b ++ c) n
wrote_three x y z h = wrote_two (wrote_two x y refl) z h

-- the same under other names for the text and its bound
pub wrote_as : {v w : Writer} {j k : ℕ} {xs ys : List ℕ} → Wrote v w xs j → xs ≡ ys → length ys ≤ k → Wrote v w ys k
wrote_as a e h =
    record { same = a.same; long = a.long; bytes = rw e at a.bytes; next = rw e at a.next; within = omega (arith, a.next, ap length e) }

-- a copy of s, as a part of the buffer that came back as ys
pub copied : (l ys s : List ℕ) (p : ℕ) → ys ≡ s → p + length s ≤ length l → put_mid p (p + length s - p) l ys ≡ write l p s
copied l ys s p e h =
    let n : p + length s - p ≡ length s = omega arith in
    rw (e, n, drop-drop) (sym (write-split l p s h))

-- the test for room, by a quotient that cannot wrap
pub room_for : (v n : ℕ) → 256 ≤ n → leb v ((n - 256) / 74) ≡ leb (256 + 74 * v) n
room_for v n h = go (leb v ((n - 256) / 74)) refl where
  go : (b : Bool) → leb v ((n - 256) / 74) ≡ b → b ≡ leb (256 + 74 * v) n
  go true e = let k : v ≤ (n - 256) / 74 = leb-true v ((n - 256) / 74) e in sym (le-leb (256 + 74 * v) n (omega arith))
  go false e = let k : (n - 256) / 74 < v = leb-false v ((n - 256) / 74) e in sym (lt-leb (256 + 74 * v) n (omega arith))

pub no_room : (v n : ℕ) → n < 256 → leb 256 n ≡ leb (256 + 74 * v) n
no_room v n h = lt-leb 256 n h ∙ sym (lt-leb (256 + 74 * v) n (omega arith))
