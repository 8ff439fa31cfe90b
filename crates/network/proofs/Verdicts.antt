-- Laws of verdicts: tests in a row are made one after another, and pass where each passes. Assumes nothing.
use Rattle.std.specs.Result.{result_and}
use Rattle.std.proofs.Common.{Err, None, Ok, Option, Result, Some}
use Rattle.std.specs.Result.{IsErrAnd}
use mathlib.Core.Path.{◌≡◌, refl, sym, ap, ◌∙◌}
use mathlib.Core.List.{List, [], ◌∷◌, ◌++◌}
use mathlib.Core.Bool.{Bool, true, false, not}
use Prim.Native.Nat.{ℕ}
use native.Mathlib.Omega.{arith}
use Rattle.network.specs.declared.Cause.{Cause}
use Rattle.network.specs.declared.Refusal.{Refusal}
use Rattle.network.specs.Refusals.{Verdict}
use lib.ListN.{replicate}
use Rattle.network.specs.Refusals.{test, test_at, verdict, marks_after}

-- ---- one verdict after another

pub refused-passed : (r : Refusal) → ◌≡◌ {A = Verdict} (Err r) (Ok tt) → ⊥
refused-passed r e = let z : ◌≡◌ {A = ℕ} 0 1 = cc in omega arith

then-refused : {v : Verdict} (w : Verdict) {r : Refusal} → v ≡ Err r → result_and v w ≡ Err r
then-refused w e = rw e

then_next : {v : Verdict} (w : Verdict) → v ≡ Ok tt → result_and v w ≡ w
then_next w e = rw e

then-passed : (v w : Verdict) → result_and v w ≡ Ok tt → (v ≡ Ok tt) × (w ≡ Ok tt)
then-passed (Err r) w e = absurd (refused-passed r e)
then-passed (Ok tt) w e = (refl, e)

pub verdict-append : (us vs : List Verdict) → verdict (us ++ vs) ≡ result_and (verdict us) (verdict vs)
unfolding verdict
verdict-append [] vs = refl
verdict-append (Err r ∷ us) vs = refl
verdict-append ((Ok tt) ∷ us) vs = verdict-append us vs

pub verdict-one : (v : Verdict) → verdict (v ∷ []) ≡ v
unfolding verdict
verdict-one (Err r) = refl
verdict-one (Ok tt) = refl

-- ---- what a `?` hands out: the refusal that it met

pub given : {A : Type 0} {y : Result A Refusal} {r : Refusal} → IsErrAnd y (λ e. e ≡ r) → y ≡ Err r
given {y = Ok a} q = absurd q
given {y = Err e} q = rw q

pub handed-out : {A : Type 0} {y v : Result A Refusal} {r : Refusal} → IsErrAnd y (λ e. e ≡ r) → Err r ≡ v → y ≡ v
handed-out q h = given q ∙ h

-- ---- a function that makes the tests in order: x is what it got of the first of them

-- it stops at a refusal
pub halts : {x v : Verdict} {r : Refusal} (vs : List Verdict) → x ≡ v → x ≡ Err r → Err r ≡ verdict (v ∷ vs)
unfolding verdict
halts vs e h = sym (then-refused (verdict vs) (sym e ∙ h))

pub halts-in : {x : Verdict} {r : Refusal} (us vs : List Verdict) → x ≡ verdict us → x ≡ Err r → Err r ≡ verdict (us ++ vs)
halts-in us vs e h = sym (verdict-append us vs ∙ then-refused (verdict vs) (sym e ∙ h))

-- it goes on
pub passes : {x y v : Verdict} (vs : List Verdict) → x ≡ v → x ≡ Ok tt → y ≡ verdict vs → y ≡ verdict (v ∷ vs)
unfolding verdict
passes vs e h k = k ∙ sym (then_next (verdict vs) (sym e ∙ h))

pub passes-in : {x y : Verdict} (us vs : List Verdict) → x ≡ verdict us → x ≡ Ok tt → y ≡ verdict vs → y ≡ verdict (us ++ vs)
passes-in us vs e h k = k ∙ sym (verdict-append us vs ∙ then_next (verdict vs) (sym e ∙ h))

-- it makes the last one
pub last : {x v : Verdict} → x ≡ v → x ≡ verdict (v ∷ [])
last {v = v} e = e ∙ sym (verdict-one v)

-- ---- the marks of such a function, where the tests are those before 6

module _ {x : Verdict} (us : List Verdict) (b : ℕ) (marks : List ℕ) (e : x ≡ verdict us) where
  pub marks-left : {r : Refusal} → x ≡ Err r → marks ≡ marks_after (verdict us) b marks
  marks-left h = rw (← e, h)

  pub marks-zero : {marks' : List ℕ} → x ≡ Ok tt → marks' ≡ replicate b 0 → marks' ≡ marks_after (verdict us) b marks
  marks-zero h k = k ∙ rw (← e, h)

  module _ (vs : List Verdict) where
    pub marks-halt : {r : Refusal} → x ≡ Err r → marks ≡ marks_after (verdict (us ++ vs)) b marks
    marks-halt h = rw (← halts-in us vs e h)

    pub marks-pass : {marks' : List ℕ} → x ≡ Ok tt → marks' ≡ marks_after (verdict vs) b marks → marks' ≡ marks_after (verdict (us ++ vs)) b marks
    marks-pass h k = k ∙ rw (verdict-append us vs, then_next (verdict vs) (sym e ∙ h))

-- ---- tests that all pass

pub first-passed : (v : Verdict) (vs : List Verdict) → verdict (v ∷ vs) ≡ Ok tt → (v ≡ Ok tt) × (verdict vs ≡ Ok tt)
unfolding verdict
first-passed v vs e = then-passed v (verdict vs) e

pub stage-passed : (us vs : List Verdict) → verdict (us ++ vs) ≡ Ok tt → (verdict us ≡ Ok tt) × (verdict vs ≡ Ok tt)
stage-passed us vs e = then-passed (verdict us) (verdict vs) (sym (verdict-append us vs) ∙ e)

pub both-passed : (us vs : List Verdict) → verdict us ≡ Ok tt → verdict vs ≡ Ok tt → verdict (us ++ vs) ≡ Ok tt
both-passed us vs e h = verdict-append us vs ∙ then_next (verdict vs) e ∙ h

-- ---- one test

pub test-is : (k : Cause) {x : Verdict} {a b : Bool} → x ≡ test k a → a ≡ b → x ≡ test k b
test-is k e h = e ∙ ap (test k) h

pub test-not-is : (k : Cause) {x : Verdict} {a b : Bool} → x ≡ test k (not a) → a ≡ b → x ≡ test k (not b)
test-not-is k e h = e ∙ ap (λ t. test k (not t)) h

pub test-at-is : (k : Cause) {x : Verdict} {a b : Option ℕ} → x ≡ test_at k a → a ≡ b → x ≡ test_at k b
test-at-is k e h = e ∙ ap (test_at k) h

pub test-passed : (k : Cause) (b : Bool) → test k b ≡ Ok tt → b ≡ false
unfolding test
test-passed k true e = absurd (refused-passed _ e)
test-passed k false e = refl

pub test-at-passed : (k : Cause) (p : Option ℕ) → test_at k p ≡ Ok tt → p ≡ None
unfolding test_at
test-at-passed k (Some i) e = absurd (refused-passed _ e)
test-at-passed k None e = refl

pub passed-test : (k : Cause) {b : Bool} → b ≡ false → test k b ≡ Ok tt
unfolding test
passed-test k e = rw e

pub passed-test-at : (k : Cause) {p : Option ℕ} → p ≡ None → test_at k p ≡ Ok tt
unfolding test_at
passed-test-at k e = rw e
