-- What the calls know where their tests refuse nothing, and what they then answer. Assumes nothing.
use Rattle.network.specs.declared.Cause.TheVariants.{Head, Pairs, Room, Section}
use Rattle.std.proofs.Common.{Err, None, Ok, Some}
use Prim.Native.Nat.{ℕ, zero, suc, ◌+◌, ◌*◌, ◌/◌, ◌%◌, ◌≤◌, ◌<◌}
use mathlib.Core.Path.{◌≡◌, refl, sym, ap, ◌∙◌}
use mathlib.Core.List.{List, [], ◌++◌}
use mathlib.Core.Bool.{Bool, true, false, cond}
use native.Mathlib.Omega.{arith}
use native.Mathlib.Nat.{add-zero}
use lib.ListN.{length, get_or}
use mir.Syntax.{w8}
use mir.Val.{Fits}
use lib.Dec.{ltb}
use lib.Ieee.{Float, nan}
use lib.Ieee.Scale.{finite}
use borrow.Author.Tests.{eqb-true, ltb-false, not-false}
use Rattle.field.specs.Vec.{Axis, X, Y, Z, on}
use Rattle.field.specs.Buffer.{get, vector, write}
use Rattle.field.proofs.Counting.{none_of}
use Rattle.field.proofs.Buffers.{get-vector}
use Rattle.network.specs.Refusals.{Verdict}
use Rattle.network.specs.declared.Refusal.{Refusal}
use Rattle.network.specs.declared.Shape.{Shape}
use Rattle.network.specs.Network.{Content, content, rows}
use Rattle.network.specs.Refusals.{verdict, count_tests, length_tests, content_fits as fits, end_tests, domain_tests, bad_weight, bad_scale, bad_vector}
use Rattle.network.specs.inner.Sound.{ShapeSound, ContentLengths}
use Rattle.network.proofs.Verdicts.{halts-in, passes-in, verdict-one, first-passed, stage-passed, test-passed, test-at-passed}
use Rattle.network.proofs.Sound.{counts-sound, lengths-fit, content-fits, domain-sound, row-domain, weight-domain, scale-domain, vector-domain}
use Rattle.layout.specs.Bytes.{AreBytes, AreDoubles}
use Rattle.layout.specs.Image.{sizes, image}
use Rattle.layout.proofs.Runs.{length-image}
use Rattle.layout.proofs.Stores.{image-front}
use Rattle.image.specs.Reading.{length_at, shape_at, rays_from, weights_from, scales_from, points_from, content_from, content_of}
use Rattle.image.specs.Tests.{bad_length, image_tests, content_fits, content_sections, row_tests, shorter, room_tests, counts_tests, read_tests, write_tests}
use Rattle.image.specs.Calls.{counts_if, written_if, after, counts_of, Lists, lists, content_with, read_verdict, Reads, HoldsDoubles, write_verdict, Writes}
use Rattle.image.specs.inner.Sound.{ImageSound, ContentReadable, ContentFilled, ReadSound, WriteSound}
use Rattle.image.proofs.Heads.{four-pairs}
use Rattle.image.proofs.Domain.{double-read}

-- ---- 20 to 22

pub image-sound : (l : List ℕ) → verdict (image_tests l) ≡ Ok tt → ImageSound l
unfolding image_tests bad_length
image-sound l e =
    let a = first-passed _ _ e in
    let b = first-passed _ _ a.1 in
    let p = test-at-passed Pairs _ b.0 in
    let q = test-at-passed Section _ (sym (verdict-one _) ∙ b.1) in
    let n : (i : ℕ) → i < 4 → length_at l i ≡ get_or (sizes (shape_at 36 l)) i 0 = λ i k. eqb-true _ _ (not-false _ (none_of _ 4 q i k)) in
    record {
      head = test-passed Head _ a.0;
      pairs = p;
      lengths = n;
      size = omega (arith, four-pairs l p, n 0 (omega arith), n 1 (omega arith), n 2 (omega arith), n 3 (omega arith));
    }

module _ (l : List ℕ) {x : Verdict} (e : x ≡ verdict (image_tests l)) (h : x ≡ Ok tt) where
  pub image-long : 52 ≤ length l
  image-long = omega (arith, (image-sound l (sym e ∙ h)).size)

  pub rows-there : {s : Shape} → s ≡ shape_at 36 l → 52 + 48 * rows s + 24 * s.points ≤ length l
  rows-there k = rw k (omega (arith, (image-sound l (sym e ∙ h)).size))

-- ---- stages of what was read

pub counts-is : {s t : Shape} {x : Verdict} → x ≡ verdict (count_tests s) → s ≡ t → x ≡ verdict (count_tests t)
counts-is e h = e ∙ ap (λ t. verdict (count_tests t)) h

pub lengths-is : {a b : Bool} {x : Verdict} → x ≡ verdict (length_tests a) → a ≡ b → x ≡ verdict (length_tests b)
lengths-is e h = e ∙ ap (λ t. verdict (length_tests t)) h

pub shaped-is : (l es : List ℕ) (rs ws ss ps : List Float) {s : Shape} {x : Verdict} →
    x ≡ verdict (count_tests s ++ (length_tests (fits s es rs ws ss ps) ++ row_tests (content_from 52 s l))) → s ≡ shape_at 36 l →
    x ≡ verdict (count_tests (shape_at 36 l) ++ (length_tests (fits (shape_at 36 l) es rs ws ss ps) ++ row_tests (content_of l)))
shaped-is l es rs ws ss ps e h = e ∙ ap (λ s. verdict (count_tests s ++ (length_tests (fits s es rs ws ss ps) ++ row_tests (content_from 52 s l)))) h

-- ---- 7

-- vectors that are all finite are finite numbers
vectors-finite : (v : List Float) (n : ℕ) → ((i : ℕ) → i < n → bad_vector v i ≡ false) → (k : ℕ) → k < 3 * n → finite (get_or v k nan) ≡ true
vectors-finite v n f k h = rw e (go (k % 3) (omega arith))
  where
    e : k ≡ 3 * (k / 3) + k % 3
    e = omega arith

    at : (a : Axis) → finite (on a (get vector v (3 * (k / 3)))) ≡ true
    at = vector-domain v (k / 3) (f (k / 3) (omega arith))

    go : (j : ℕ) → j < 3 → finite (get_or v (3 * (k / 3) + j) nan) ≡ true
    go zero q = rw add-zero (rw (get-vector v (3 * (k / 3))) at (at X))
    go (suc zero) q = rw (get-vector v (3 * (k / 3))) at (at Y)
    go (suc (suc zero)) q = rw (get-vector v (3 * (k / 3))) at (at Z)
    go (suc (suc (suc j))) q = absurd (omega arith)

pub content-readable : (p : ℕ) (s : Shape) (l : List ℕ) → verdict (row_tests (content_from p s l)) ≡ Ok tt → p + 48 * rows s + 24 * s.points ≤ length l → ContentReadable p s l
unfolding row_tests content_from
content-readable p s l e h =
    let r = rows s in
    let rs = rays_from p r l in
    let ws = weights_from p r l in
    let ss = scales_from p r l in
    let ps = points_from (p + 48 * r) s.points l in
    let d = domain-sound s rs ws ss ps [] (stage-passed (end_tests s _) _ e).1 in
    let row : (i : ℕ) → i < r → (bad_weight ws i ≡ false) × (bad_scale ss i ≡ false) × (bad_vector rs i ≡ false) = λ i k. row-domain ws ss rs i (d.0 i k) in
    record {
      there = h;
      rays = record { there = λ k q. omega arith; number = λ k q. rw (double-read (p + 8) 48 3 (3 * r) k l q) at (vectors-finite rs r (λ i g. (row i g).2) k q) };
      weights = record { there = λ k q. omega arith; number = λ k q. rw (double-read (p + 32) 48 1 r k l q) at (weight-domain ws k (row k q).0).0 };
      scales = record { there = λ k q. omega arith; number = λ k q. rw (double-read (p + 40) 48 1 r k l q) at (scale-domain ss k (row k q).1).0 };
      positions = record { there = λ k q. omega arith; number = λ k q. rw (double-read (p + 48 * r) 24 3 (3 * s.points) k l q) at (vectors-finite ps s.points d.1 k q) };
    }

-- ---- the counts

pub counted-sound : (l : List ℕ) → verdict (counts_tests l) ≡ Ok tt → ImageSound l × ShapeSound (shape_at 36 l)
unfolding counts_tests
counted-sound l e = let a = stage-passed (image_tests l) _ e in (image-sound l a.0, counts-sound _ a.1)

module _ (l : List ℕ) {x : Verdict} (e : x ≡ verdict (counts_tests l)) where
  pub counted-long : x ≡ Ok tt → 52 ≤ length l
  counted-long h = omega (arith, (counted-sound l (sym e ∙ h)).0.size)

  pub counts-refused : {r : Refusal} → x ≡ Err r → Err r ≡ counts_of l
  unfolding counts_of counts_if
  counts-refused h = rw (sym e ∙ h)

  pub counts-passed : {s : Shape} → x ≡ Ok tt → s ≡ shape_at 36 l → Ok s ≡ counts_of l
  unfolding counts_of counts_if
  counts-passed h k = rw (sym e ∙ h) (ap Ok k)

-- ---- a read

pub are-bytes : (l : List ℕ) → ((k : ℕ) → Fits w8 (get_or l k 0)) → AreBytes l
are-bytes l f k = omega (arith, f k)

pub read-sound : (l : List ℕ) (lent : Lists) → read_verdict l lent ≡ Ok tt → ReadSound l lent
unfolding read_verdict read_tests
read-sound l lent e =
    let a = stage-passed (image_tests l) _ e in
    let b = stage-passed (count_tests (shape_at 36 l)) _ a.1 in
    let d = stage-passed (length_tests (content_fits (content_with (shape_at 36 l) lent))) _ b.1 in
    let i = image-sound l a.0 in
    record {
      image = i;
      shape = counts-sound _ b.0;
      lengths = content-fits _ _ _ _ _ _ (lengths-fit _ d.0);
      readable = content-readable 52 (shape_at 36 l) l d.1 (omega (arith, i.size));
    }

module _ (l es : List ℕ) (rs ws ss ps : List Float) {x : Verdict} (e : x ≡ read_verdict l (lists es rs ws ss ps)) where
  pub read-refused : {r : Refusal} → x ≡ Err r → AreBytes l → Reads l (lists es rs ws ss ps) (Err r) (lists es rs ws ss ps)
  unfolding counts_if after
  read-refused {r} h b =
      let v : read_verdict l (lists es rs ws ss ps) ≡ Err r = sym e ∙ h in
      record { answer = rw v; stored = record { ends = rw v; rays = rw v; weights = rw v; scales = rw v; positions = rw v }; bytes = b }

  pub read-ready : x ≡ Ok tt → ReadSound l (lists es rs ws ss ps)
  read-ready h = read-sound l _ (sym e ∙ h)

  pub read-passed : (es' : List ℕ) (rs' ws' ss' ps' : List Float) {s : Shape} →
      x ≡ Ok tt → s ≡ shape_at 36 l → ContentFilled 52 s l es' rs' ws' ss' ps' → AreBytes l → Reads l (lists es rs ws ss ps) (Ok s) (lists es' rs' ws' ss' ps')
  unfolding counts_if after content_from
  read-passed es' rs' ws' ss' ps' h k f b =
      let v : read_verdict l (lists es rs ws ss ps) ≡ (Ok tt) = sym e ∙ h in
      let g : ContentFilled 52 (shape_at 36 l) l es' rs' ws' ss' ps' = rw k at f in
      record {
        answer = rw v (ap Ok k);
        stored = record { ends = rw v g.ends; rays = rw v g.rays; weights = rw v g.weights; scales = rw v g.scales; positions = rw v g.positions };
        bytes = b;
      }

-- a read's two calls: those of the image, and those of what it holds
module _ (l es : List ℕ) (rs ws ss ps : List Float) {x : Verdict} (e : x ≡ verdict (image_tests l)) where
  pub image-refused : {r : Refusal} → x ≡ Err r → Err r ≡ read_verdict l (lists es rs ws ss ps)
  unfolding read_verdict read_tests
  image-refused h = halts-in (image_tests l) _ e h

  pub read-is : {y : Verdict} {s : Shape} → x ≡ Ok tt → s ≡ shape_at 36 l →
      y ≡ verdict (count_tests s ++ (length_tests (fits s es rs ws ss ps) ++ row_tests (content_from 52 s l))) → y ≡ read_verdict l (lists es rs ws ss ps)
  unfolding read_verdict read_tests
  read-is h k f = passes-in (image_tests l) _ e h (shaped-is l es rs ws ss ps f k)

-- a function that stores what was read
module _ (l es : List ℕ) (rs ws ss ps : List Float) {s : Shape} (R : ReadSound l (lists es rs ws ss ps)) (k : s ≡ shape_at 36 l) where
  pub read-readable : ContentReadable 52 s l
  read-readable = rw k R.readable

  pub read-lengths : ContentLengths s es rs ws ss ps
  read-lengths = rw k R.lengths

-- ---- 23

pub room-is : (c : Content) (room : ℕ) {n : ℕ} {x : Verdict} → x ≡ verdict (room_tests room n) → n ≡ 52 + 48 * rows c.shape + 24 * c.shape.points →
    x ≡ verdict (room_tests room (length (image c)))
room-is c room e h = e ∙ ap (λ t. verdict (room_tests room t)) (h ∙ sym (length-image c))

pub room-enough : (room needed : ℕ) → verdict (room_tests room needed) ≡ Ok tt → needed ≤ room
unfolding room_tests shorter
room-enough room needed e = go (ltb room needed) refl (test-at-passed Room _ (sym (verdict-one _) ∙ e))
  where
    go : (b : Bool) → ltb room needed ≡ b → cond b (Some needed) None ≡ None → needed ≤ room
    go true h f = absurd (let z : ◌≡◌ {A = ℕ} 0 1 = cc in omega arith)
    go false h f = ltb-false room needed h

-- ---- a write

pub holds-doubles : (s : Shape) (es : List ℕ) (rs ws ss ps : List Float) → AreDoubles rs → AreDoubles ws → AreDoubles ss → AreDoubles ps → HoldsDoubles (content s es rs ws ss ps)
holds-doubles s es rs ws ss ps a b d e = record { rays = a; weights = b; scales = d; positions = e }

pub write-sound : (c : Content) (room : ℕ) → verdict (write_tests c room) ≡ Ok tt → WriteSound c room
unfolding write_tests
write-sound c room e =
    let a = stage-passed (count_tests c.shape) _ e in
    let b = stage-passed (length_tests (content_fits c)) _ a.1 in
    let d = stage-passed (end_tests c.shape c.ends) _ b.1 in
    let f = stage-passed (domain_tests (content_sections c)) _ d.1 in
    record { counts = a.0; shape = counts-sound _ a.0; fit = lengths-fit _ b.0; ends = d.0; domain = f.0; room = room-enough _ _ f.1 }

module _ (c : Content) (held : List ℕ) {x : Verdict} (e : x ≡ verdict (write_tests c (length held))) where
  pub write-refused : {r : Refusal} → x ≡ Err r → HoldsDoubles c → Writes c held (Err r) held
  unfolding write_verdict written_if after
  write-refused {r} h d =
      let v : verdict (write_tests c (length held)) ≡ Err r = sym e ∙ h in
      record { answer = rw v; out = rw v; doubles = d }

  module _ (h : x ≡ Ok tt) where
    written : WriteSound c (length held)
    written = write-sound _ _ (sym e ∙ h)

    pub write_shape : ShapeSound c.shape
    write_shape = written.shape

    pub write-lengths : ContentLengths c.shape c.ends c.rays c.weights c.scales c.positions
    write-lengths = content-fits _ _ _ _ _ _ written.fit

    pub write-room : 52 + 48 * rows c.shape + 24 * c.shape.points ≤ length held
    write-room = omega (arith, length-image c, written.room)

    pub write-passed : (m : List ℕ) {k : ℕ} → m ≡ write held 0 (image c) → k ≡ 52 + 48 * rows c.shape + 24 * c.shape.points → HoldsDoubles c →
        Writes c held (Ok k) m
    unfolding write_verdict written_if after
    write-passed m f g d =
        let v : verdict (write_tests c (length held)) ≡ (Ok tt) = sym e ∙ h in
        record { answer = rw v (ap Ok (g ∙ sym (length-image c))); out = rw v (image-front c held m f written.room); doubles = d }
