-- The round trips of specs/RoundTrips. Assumes nothing.
use Rattle.std.specs.Result.{result_and}
use Rattle.network.specs.declared.Cause.TheVariants.{Head, Lengths, Pairs, Section}
use Rattle.std.proofs.Common.{Err, None, Ok, Result}
use Rattle.network.specs.declared.Refusal.{Refusal}
use Prim.Native.Nat.{ℕ, zero, suc, ◌+◌, ◌*◌, ◌/◌, ◌%◌, ◌<◌}
use mathlib.Core.Path.{◌≡◌, refl, sym, ap, ap₂, subst, ◌∙◌}
use mathlib.Core.List.{List, ◌++◌, map}
use mathlib.Core.Bool.{Bool, true, false, not, ◌&&◌}
use native.Mathlib.Omega.{arith}
use native.Mathlib.Nat.{add-zero}
use lib.ListN.{length, get_or, take, drop}
use lib.Seq.{take_at}
use lib.Dec.{ltb}
use borrow.Author.Tests.{eq-eqb, ltb-true, ltb-false}
use Rattle.field.specs.Count.{lowest}
use Rattle.field.proofs.Counting.{lowest-none}
use Rattle.network.specs.Refusals.{Verdict}
use Rattle.network.specs.declared.Shape.{Shape}
use Rattle.network.specs.Network.{Content, rows}
use Rattle.network.specs.Refusals.{verdict, count_tests, length_tests, ends_fit, rays_fit, vectors_fit, content_fits as fits, end_tests, domain_tests}
use Rattle.network.specs.inner.Sound.{ContentLengths, EndsSound}
use Rattle.network.proofs.Verdicts.{verdict-append, verdict-one, passes-in, stage-passed, both-passed, passed-test, passed-test-at}
use Rattle.network.proofs.Sound.{content-fits, ends-sound}
use Rattle.layout.specs.Bytes.{AreBytes, total}
use Rattle.layout.specs.Image.{sections, head_size, sizes, image}
use Rattle.layout.proofs.Runs.{section-lengths}
use Rattle.image.specs.Reading.{shape_at, content_from, content_of}
use Rattle.image.specs.Tests.{bad_length, image_tests, content_fits, content_sections, row_tests, room_tests, read_tests, write_tests}
use Rattle.image.specs.Calls.{counts_if, written_if, after, Lists, content_with, read_verdict, Stored, Reads, HoldsDoubles, write_verdict, Writes}
use Rattle.image.specs.RoundTrips.{ReadsBack, WritesBack, WriteThenRead, ReadThenWrite}
use Rattle.image.specs.inner.Sound.{WriteSound}
use Rattle.image.proofs.Domain.{length-wholes-from, length-doubles-from}
use Rattle.image.proofs.Passing.{image-sound, content-readable, write-sound}
use Rattle.image.proofs.Assembled.{assembled-head, assembled-pairs, assembled-length}
use Rattle.image.proofs.RoundTrips.{shape-back, content-back, image-back}

-- ---- stages

-- a stage that passes says nothing
passed-before : (us vs : List Verdict) → verdict us ≡ Ok tt → verdict (us ++ vs) ≡ verdict vs
passed-before us vs e = sym (passes-in us vs refl e refl)

-- nor do the stages behind, where they pass
passed-behind : (us vs : List Verdict) → verdict vs ≡ Ok tt → verdict (us ++ vs) ≡ verdict us
passed-behind us vs e = verdict-append us vs ∙ ap (result_and (verdict us)) e ∙ go (verdict us)
  where
    go : (v : Verdict) → result_and v (Ok tt) ≡ v
    go (Err r) = refl
    go (Ok tt) = refl

-- ---- written, then read

module _ (c : Content) (n : ℕ) (W : WriteSound c n) where
  fit : ContentLengths c.shape c.ends c.rays c.weights c.scales c.positions
  fit = content-fits _ _ _ _ _ _ W.fit

  ends-ok : EndsSound c.shape c.ends
  ends-ok = ends-sound _ _ W.shape fit.ends W.ends

  -- an accepted end is a camera or a point
  ends-small : (k : ℕ) → k < 2 * rows c.shape → get_or c.ends k 0 < 0x1_0000_0000
  ends-small k h = rw e (go (k % 2) (omega arith))
    where
      e : k ≡ 2 * (k / 2) + k % 2
      e = omega arith

      second : (x : Bool) → ltb (k / 2) c.shape.bearings ≡ x → get_or c.ends (2 * (k / 2) + 1) 0 < 0x1_0000_0000
      second true q = let t = ends-ok.point (k / 2) (ltb-true _ _ q) in let f = W.shape in omega arith
      second false q = let t = ends-ok.target (k / 2) (ltb-false _ _ q) (omega arith) in let f = W.shape in omega arith

      go : (j : ℕ) → j < 2 → get_or c.ends (2 * (k / 2) + j) 0 < 0x1_0000_0000
      go zero q = let t = ends-ok.camera (k / 2) (omega arith) in let f = W.shape in rw (add-zero (2 * (k / 2))) (omega arith)
      go (suc zero) q = second (ltb (k / 2) c.shape.bearings) refl
      go (suc (suc j)) q = absurd (omega arith)

  image-small : head_size 4 + total (map length (sections c)) < 0x1_0000_0000
  unfolding total
  image-small =
      let f = W.shape in
      let e : total (map length (sections c)) ≡ 16 + (48 * c.shape.bearings + (48 * c.shape.directions + (24 * c.shape.points + 0))) = ap total (section-lengths c) in
      omega arith

  lengths-back : lowest (bad_length (sizes (shape_at 36 (image c))) (image c)) 4 ≡ None
  unfolding bad_length image
  lengths-back =
      let e = section-lengths c ∙ ap sizes (sym (shape-back c W.shape)) in
      lowest-none _ 4 (λ i h. ap not (eq-eqb _ _ (assembled-length 1 (sections c) image-small i h ∙ ap (λ t. get_or t i 0) e)))

  image-accepted : verdict (image_tests (image c)) ≡ Ok tt
  unfolding image_tests verdict image
  image-accepted =
      rw (passed-test Head (assembled-head 1 (sections c) image-small (omega arith) (omega arith)), passed-test-at Pairs (assembled-pairs 1 (sections c) image-small), passed-test-at Section lengths-back) refl

  module _ (hold : HoldsDoubles c) where
    -- a network that is written reads back the same
    written_back : content_of (image c) ≡ c
    written_back = content-back c W.shape fit hold ends-small

    -- and the reader makes no test that refuses it, but that of the lengths
    written-accepted : (b : Bool) → verdict (read_tests (image c) b) ≡ verdict (length_tests b)
    unfolding read_tests row_tests
    written-accepted b =
        passed-before (image_tests (image c)) _ image-accepted
        ∙ passed-before (count_tests (shape_at 36 (image c))) _ (ap (λ t. verdict (count_tests t)) (shape-back c W.shape) ∙ W.counts)
        ∙ passed-behind (length_tests b) _ (ap (λ t. verdict (row_tests t)) written_back ∙ both-passed (end_tests c.shape c.ends) _ W.ends W.domain)

-- ---- read, then written

-- what is read has the lengths that the counts say
fits-back : (l : List ℕ) → content_fits (content_of l) ≡ true
unfolding fits content_from ends_fit rays_fit vectors_fit
fits-back l =
    let r = rows (shape_at 36 l) in
    let m = (shape_at 36 l).points in
    ap₂ ◌&&◌
    (ap₂ ◌&&◌ (eq-eqb _ _ (length-wholes-from 52 48 2 (2 * r) l)) (eq-eqb _ _ (length-doubles-from 84 48 1 r l)))
    (ap₂ ◌&&◌
    (ap₂ ◌&&◌ (eq-eqb _ _ (length-doubles-from 60 48 3 (3 * r) l)) (eq-eqb _ _ (length-doubles-from 92 48 1 r l)))
    (eq-eqb _ _ (length-doubles-from (52 + 48 * r) 24 3 (3 * m) l)))

lengths-passed : (b : Bool) → b ≡ true → verdict (length_tests b) ≡ Ok tt
unfolding length_tests
lengths-passed b e = verdict-one _ ∙ passed-test Lengths (ap not e)

shape_of : (l : List ℕ) → (content_of l).shape ≡ shape_at 36 l
unfolding content_from
shape_of l = refl

module _ (l : List ℕ) (lent : Lists) (bytes : AreBytes l) (ok : read_verdict l lent ≡ Ok tt) where
  -- an image that is read writes back to its own bytes
  read_back : image (content_of l) ≡ l
  unfolding read_verdict read_tests
  read_back =
      let a = stage-passed (image_tests l) _ ok in
      let b = stage-passed (count_tests (shape_at 36 l)) _ a.1 in
      let d = stage-passed (length_tests (content_fits (content_with (shape_at 36 l) lent))) _ b.1 in
      let i = image-sound l a.0 in
      image-back l bytes (shape_at 36 l) (content-readable 52 (shape_at 36 l) l d.1 (omega (arith, i.size))) refl i

  -- and the writer makes no test that refuses it, but that of the room
  read-accepted : (room : ℕ) → verdict (write_tests (content_of l) room) ≡ verdict (room_tests room (length l))
  unfolding read_verdict read_tests write_tests row_tests
  read-accepted room =
      let c = content_of l in
      let a = stage-passed (count_tests (shape_at 36 l)) _ (stage-passed (image_tests l) _ ok).1 in
      let b = stage-passed (length_tests (content_fits (content_with (shape_at 36 l) lent))) _ a.1 in
      let d = stage-passed (end_tests c.shape c.ends) _ b.1 in
      passed-before (count_tests c.shape) _ (ap (λ s. verdict (count_tests s)) (shape_of l) ∙ a.0)
      ∙ passed-before (length_tests (content_fits c)) _ (lengths-passed _ (fits-back l))
      ∙ passed-before (end_tests c.shape c.ends) _ d.0
      ∙ passed-before (domain_tests (content_sections c)) _ d.1
      ∙ ap (λ t. verdict (room_tests room (length t))) read_back

-- ---- the calls

counts-answer : (v : Verdict) (s : Shape) {x : Shape} → Ok x ≡ counts_if v s → (v ≡ Ok tt) × (x ≡ s)
unfolding counts_if
counts-answer (Err r) s e = absurd (let z : ◌≡◌ {A = ℕ} 0 1 = cc in omega arith)
counts-answer (Ok tt) s {x} e = let q : x ≡ s = cc in (refl, q)

written-answer : (v : Verdict) (n : ℕ) {k : ℕ} → Ok k ≡ written_if v n → (v ≡ Ok tt) × (k ≡ n)
unfolding written_if
written-answer (Err r) n e = absurd (let z : ◌≡◌ {A = ℕ} 0 1 = cc in omega arith)
written-answer (Ok tt) n {k = k} e = let q : k ≡ n = cc in (refl, q)

after-passed : {A : Type 0} (v : Verdict) (held new : List A) → v ≡ Ok tt → after v held new ≡ new
unfolding after
after-passed v held new e = rw e

-- the lists that a call stored
stored-content : (v : Verdict) (lent left : Lists) (c : Content) → v ≡ Ok tt → Stored v lent c left → content_with c.shape left ≡ c
unfolding after
stored-content v lent left c e S =
    let T : Stored (Ok tt) lent c left = rw e at S in
    rw (T.ends, T.rays, T.weights, T.scales, T.positions) refl

written_read : (c : Content) (held out : List ℕ) (k : ℕ) (lent left : Lists) (r : Result Shape Refusal) → Writes c held (Ok k) out → Reads (take k out) lent r left → ReadsBack c lent r left
unfolding write_verdict read_verdict
written_read c held out k lent left r w reads =
    let t = written-answer _ _ w.answer in
    let W = write-sound c (length held) t.0 in
    let e : take k out ≡ image c = ap (take k) (w.out ∙ after-passed _ _ _ t.0) ∙ take_at (image c) _ k (sym t.1) in
    let g : Reads (image c) lent r left = subst (λ l. Reads l lent r left) e reads in
    let q = shape-back c W.shape in
    let v : read_verdict (image c) lent ≡ verdict (length_tests (content_fits (content_with c.shape lent))) =
    written-accepted c _ W w.doubles _ ∙ ap (λ s. verdict (length_tests (content_fits (content_with s lent)))) q in
    record {
      answer = g.answer ∙ ap₂ counts_if v q;
      stored = subst (λ x. Stored (verdict (length_tests (content_fits (content_with c.shape lent)))) lent x left) (written_back c _ W w.doubles)
          (subst (λ x. Stored x lent (content_of (image c)) left) v g.stored);
    }

read-written : (l : List ℕ) (lent left : Lists) (s : Shape) (held out : List ℕ) (r : Result ℕ Refusal) → Reads l lent (Ok s) left → Writes (content_with s left) held r out → WritesBack l held r out
unfolding write_verdict
read-written l lent left s held out r reads w =
    let t = counts-answer _ _ reads.answer in
    let b : content_with s left ≡ content_of l =
    ap (λ x. content_with x left) (t.1 ∙ sym (shape_of l)) ∙ stored-content _ lent left (content_of l) t.0 reads.stored in
    let g : Writes (content_of l) held r out = subst (λ c. Writes c held r out) b w in
    let a = read-accepted l lent reads.bytes t.0 (length held) in
    let i = read_back l lent reads.bytes t.0 in
    record {
      answer = g.answer ∙ ap₂ written_if a (ap length i);
      bytes = g.out ∙ ap₂ (λ v x. after v held (x ++ drop (length x) held)) a i;
    }

pub write-then-read : WriteThenRead
write-then-read = record { holds = written_read }

pub read-then-write : ReadThenWrite
read-then-write = record { holds = read-written }
