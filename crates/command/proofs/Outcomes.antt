-- Laws of the program's tests and answers. Assumes nothing.
use Rattle.network.specs.declared.Cause.TheVariants.{Cameras, Sizes}
use Rattle.std.proofs.Common.{Err, Ok, Result}
use Rattle.placement.specs.declared.Report.{Report}
use Prim.Native.Nat.{ℕ, ◌+◌, ◌*◌, ◌≤◌}
use mathlib.Core.Path.{◌≡◌, refl, sym, ap, subst, ◌∙◌}
use mathlib.Core.Bool.{true}
use mathlib.Core.List.{List, [], ◌∷◌, ◌++◌}
use native.Mathlib.Omega.{arith}
use lib.ListN.{length}
use lib.Dec.{ltb}
use lib.Ieee.{Float}
use borrow.Author.Tests.{le-ltb, ltb-false}
use Rattle.network.specs.declared.Refusal.{Refusal}
use Rattle.network.specs.declared.Shape.{Shape}
use Rattle.network.specs.Refusals.{Verdict}
use Rattle.network.specs.Network.{Content, content, rows}
use Rattle.network.specs.Refusals.{test, verdict, count_tests, length_tests, end_tests}
use Rattle.network.specs.inner.Sound.{ContentLengths}
use Rattle.network.proofs.Verdicts.{verdict-one, refused-passed, halts-in, last, stage-passed, passed-test, test-passed}
use Rattle.image.specs.Reading.{shape_at, content_from, content_of}
use Rattle.image.specs.Tests.{content_fits, image_tests, row_tests, counts_tests, read_tests}
use Rattle.image.specs.Calls.{counts_if, counts_of, after, lists, read_verdict, Reads}
use Rattle.image.proofs.Domain.{length-wholes-from, length-doubles-from}
use Rattle.image.proofs.Passing.{counted-sound}
use Rattle.command.specs.declared.Reported.{Reported}
use Rattle.text.specs.Text.{refused_text}
use Rattle.command.specs.Command.{too_long, too_many, program_tests, ImageSolved, Outcome}
use Rattle.command.specs.inner.Steps.{CountsPassed, Small, ContentSound, RefusedAs, Steps}
use Rattle.command.proofs.Printing.{steps-as}
use Rattle.command.proofs.Passing.{fits, skipped, lengths-fit}

-- ---- what the counts answered

counted-refused : (v : Verdict) (s : Shape) (r : Refusal) → Err r ≡ counts_if v s → v ≡ Err r
unfolding counts_if
counted-refused (Err q) s r e = let f : q ≡ r = cc in rw f
counted-refused (Ok tt) s r e = absurd (let z : ◌≡◌ {A = ℕ} 0 1 = cc in omega arith)

counted-passed : (v : Verdict) (s x : Shape) → Ok x ≡ counts_if v s → (v ≡ Ok tt) × (x ≡ s)
unfolding counts_if
counted-passed (Err q) s x e = absurd (let z : ◌≡◌ {A = ℕ} 0 1 = cc in omega arith)
counted-passed (Ok tt) s x e = let f : x ≡ s = cc in (refl, f)

-- ---- the outcome, by the verdict of the tests

outcome-refused : (l : List ℕ) (x : Refusal) → verdict (program_tests l) ≡ Err x → (a : Result Report Refusal) (t : List ℕ) → RefusedAs x a t → Outcome l a t
outcome-refused l x e a t h = record {
  refused = λ r q. let f : x ≡ r = cc in (h.answered ∙ ap Err f, h.printed ∙ ap refused_text f);
  passed = λ q. absurd (refused-passed x (sym e ∙ q));
}

outcome-passed : (l : List ℕ) → verdict (program_tests l) ≡ Ok tt → (a : Result Report Refusal) (t : List ℕ) → ImageSolved (content_of l) a t → Outcome l a t
outcome-passed l e a t h = record { refused = λ r q. absurd (refused-passed r (sym q ∙ e)); passed = λ q. h }

-- what a step that refuses leaves to be printed
pub refused-outcome : (l : List ℕ) (q : Refusal) → verdict (program_tests l) ≡ Err q → Outcome l (Err q) (refused_text q)
refused-outcome l q e = outcome-refused l q e _ _ (record { answered = refl; printed = refl })

-- ---- the length

module _ (l : List ℕ) {x : Verdict} (e : x ≡ test Sizes (ltb 16384 (length l))) where
  pub long-refused : (q : Refusal) → x ≡ Err q → verdict (program_tests l) ≡ Err q
  unfolding program_tests too_long
  long-refused q f = sym (halts-in (test Sizes (ltb 16384 (length l)) ∷ []) _ (last e) f)

  pub short : x ≡ Ok tt → length l ≤ 16384
  short f = ltb-false _ _ (test-passed Sizes _ (sym e ∙ f))

short-passed : (l : List ℕ) → length l ≤ 16384 → verdict (test Sizes (too_long l) ∷ []) ≡ Ok tt
unfolding too_long
short-passed l h = verdict-one _ ∙ passed-test Sizes (le-ltb 16384 (length l) h)

-- ---- the counts

module _ (l : List ℕ) (k : length l ≤ 16384) {x : Result Shape Refusal} (e : x ≡ counts_of l) where
  pub counts-refused : (q : Refusal) → x ≡ Err q → verdict (program_tests l) ≡ Err q
  unfolding program_tests counts_of
  counts-refused q f =
      skipped _ _ (short-passed l k) ∙ sym (halts-in (counts_tests l) _ refl (counted-refused _ _ q (sym f ∙ e)))

  pub counts-passed : (s : Shape) → x ≡ Ok s → CountsPassed l s
  unfolding counts_of
  counts-passed s f = let p = counted-passed _ _ s (sym f ∙ e) in record { short = k; passed = p.0; shape = p.1 }

-- so many points and rows fit into 16,384 bytes
small : (l : List ℕ) (s : Shape) → CountsPassed l s → s.cameras ≤ 64 → Small s
small l s k h =
    let i = (counted-sound l k.passed).0.size in
    let e : length l ≡ 52 + 48 * rows s + 24 * s.points = rw k.shape i in
    let short = k.short in
    record { cameras = h; points = omega arith; rows = omega arith }

-- what is read has the lengths that the counts say
content-fit : (l : List ℕ) → content_fits (content_of l) ≡ true
unfolding content_from
content-fit l = lengths-fit (shape_at 36 l) _ _ _ _ _ (record {
  ends = length-wholes-from 52 48 2 _ l;
  domain = record {
    rays = length-doubles-from 60 48 3 _ l;
    weights = length-doubles-from 84 48 1 _ l;
    scales = length-doubles-from 92 48 1 _ l;
    positions = length-doubles-from (52 + 48 * rows (shape_at 36 l)) 24 3 _ l;
  };
})

-- ---- the 64 cameras

module _ (l : List ℕ) (s : Shape) (k : CountsPassed l s) where
  counted-verdict : verdict (program_tests l) ≡ verdict ((test Cameras (too_many s) ∷ []) ++ row_tests (content_of l))
  unfolding program_tests
  counted-verdict =
      skipped _ _ (short-passed l k.short) ∙ skipped (counts_tests l) _ k.passed
      ∙ ap (λ t. verdict ((test Cameras (too_many t) ∷ []) ++ row_tests (content_of l))) (sym k.shape)

  module _ {x : Verdict} (e : x ≡ test Cameras (ltb 64 s.cameras)) where
    pub many-refused : (q : Refusal) → x ≡ Err q → verdict (program_tests l) ≡ Err q
    unfolding too_many
    many-refused q f = counted-verdict ∙ sym (halts-in (test Cameras (ltb 64 s.cameras) ∷ []) _ (last e) f)

    pub few : x ≡ Ok tt → Small s
    few f = small l s k (ltb-false _ _ (test-passed Cameras _ (sym e ∙ f)))

  few-passed : s.cameras ≤ 64 → verdict (test Cameras (too_many s) ∷ []) ≡ Ok tt
  unfolding too_many
  few-passed h = verdict-one _ ∙ passed-test Cameras (le-ltb 64 s.cameras h)

  -- ---- the network

  module _ (h : Small s) (es es' : List ℕ) (rs ws ss ps rs' ws' ss' ps' : List Float) (sized : ContentLengths s es rs ws ss ps)
      (x : Result Shape Refusal) (reads : Reads l (lists es rs ws ss ps) x (lists es' rs' ws' ss' ps')) where
    rows_run : verdict (program_tests l) ≡ verdict (row_tests (content_of l))
    rows_run = counted-verdict ∙ skipped _ _ (few-passed h.cameras)

    counts-run : (verdict (image_tests l) ≡ Ok tt) × (verdict (count_tests (shape_at 36 l)) ≡ Ok tt)
    unfolding counts_tests
    counts-run = stage-passed (image_tests l) _ k.passed

    lent_fits : content_fits (content (shape_at 36 l) es rs ws ss ps) ≡ true
    lent_fits = rw k.shape at (lengths-fit s es rs ws ss ps sized)

    -- the reader's verdict is that on the rows, and so the program's is
    rows-read : read_verdict l (lists es rs ws ss ps) ≡ verdict (row_tests (content_of l))
    unfolding read_verdict read_tests
    rows-read = skipped (image_tests l) _ counts-run.0 ∙ skipped (count_tests (shape_at 36 l)) _ counts-run.1 ∙ skipped (length_tests _) _ (fits lent_fits)

    module _ (t : Shape) (f : x ≡ Ok t) where
      passed : read_verdict l (lists es rs ws ss ps) ≡ Ok tt
      passed = (counted-passed _ (shape_at 36 l) t (sym f ∙ reads.answer)).0

      content-read : content s es' rs' ws' ss' ps' ≡ content_of l
      unfolding after content_from
      content-read =
          let a = rw passed at reads.stored.ends in
          let d = rw passed at reads.stored.rays in
          let g = rw passed at reads.stored.weights in
          let i = rw passed at reads.stored.scales in
          let j = rw passed at reads.stored.positions in
          rw (k.shape, a, d, g, i, j)

      rows-passed : verdict (row_tests (content s es' rs' ws' ss' ps')) ≡ Ok tt
      rows-passed = ap (λ (c : Content). verdict (row_tests c)) content-read ∙ sym rows-read ∙ passed

      pub content-sound : ContentSound (content s es' rs' ws' ss' ps')
      unfolding row_tests
      content-sound =
          let p = stage-passed (end_tests s es') _ rows-passed in
          let fit : content_fits (content s es' rs' ws' ss' ps') ≡ true = ap content_fits content-read ∙ content-fit l in
          record { small = h; counts = rw k.shape counts-run.1; fit = fit; ends = p.0; domain = p.1 }

    pub read-refused : (q : Refusal) → x ≡ Err q → verdict (program_tests l) ≡ Err q
    read-refused q f = rows_run ∙ sym rows-read ∙ counted-refused _ (shape_at 36 l) q (sym f ∙ reads.answer)

    module _ (t : Shape) (f : x ≡ Ok t) where
      pub read-solved : (r : Result Reported Refusal) (out out' : List ℕ) → Steps (ImageSolved (content s es' rs' ws' ss' ps')) r out out' → Steps (Outcome l) r out out'
      read-solved r out out' =
          steps-as r out out' (λ a t' q. outcome-passed l (rows_run ∙ sym rows-read ∙ passed t f) a t' (subst (λ (d : Content). ImageSolved d a t') (content-read t f) q))
