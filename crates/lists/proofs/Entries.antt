-- The tests of the lengths, made so that no sum or product wraps, and what a call that passes has shown. Assumes nothing.
use Rattle.network.specs.declared.Cause.TheVariants.{OutOfRange}
use Rattle.std.proofs.Common.{Err, Ok}
use mathlib.Core.Path.{◌≡◌, refl, sym, ap, ◌∙◌}
use mathlib.Core.List.{List}
use mathlib.Core.Bool.{Bool, true, false}
use Prim.Native.Nat.{ℕ, ◌+◌, ◌*◌, ◌/◌, ◌≤◌}
use native.Mathlib.Omega.{arith}
use lib.ListN.{length}
use lib.Dec.{eqb, leb}
use borrow.Author.Tests.{leb-true, leb-false, eqb-true, le-leb, lt-leb}
use Rattle.double.proofs.Truth.{both_true}
use Rattle.field.proofs.Counting.{none_of}
use Rattle.network.specs.declared.Refusal.{Refusal}
use Rattle.network.specs.Refusals.{Verdict}
use Rattle.network.specs.Refusals.{verdict, length_tests}
use Rattle.network.proofs.Verdicts.{stage-passed, verdict-one, test-at-passed}
use Rattle.network.proofs.Sound.{lengths-fit, measured}
use Rattle.lists.specs.PointLists.{lengths_fit, past_points, point_lists_tests, offsets_of, listed_of, PointListsCall}
use Rattle.lists.specs.inner.Sorted.{Rows}

pub half-test : (b k : ℕ) → leb b (k / 2) ≡ leb (2 * b) k
half-test b k = go (leb (2 * b) k) refl
  where
    go : (t : Bool) → leb (2 * b) k ≡ t → leb b (k / 2) ≡ t
    go true e = le-leb b (k / 2) (omega (arith, leb-true (2 * b) k e))
    go false e = lt-leb b (k / 2) (omega (arith, leb-false (2 * b) k e))

-- lengths that fit
lengths-hold : (m b ends offsets listed : ℕ) → lengths_fit m b ends offsets listed ≡ true → (2 * b ≤ ends) × (offsets ≡ m + 1) × (listed ≡ b)
unfolding lengths_fit
lengths-hold m b ends offsets listed e =
    let h = both_true (leb (2 * b) ends) _ e in
    let k = both_true (eqb offsets (m + 1)) (eqb listed b) h.1 in
    (leb-true _ _ h.0, eqb-true _ _ k.0, eqb-true _ _ k.1)

-- ---- the tests, one after another

-- the stage of the lengths, where `fit` was computed
pub lengths-tested : {x : Verdict} {fit f : Bool} → x ≡ verdict (length_tests fit) → fit ≡ f → x ≡ verdict (length_tests f)
lengths-tested e h = e ∙ ap (λ t. verdict (length_tests t)) h

pub rows-held : (m b k offsets listed : ℕ) {x : Verdict} {fit : Bool} → fit ≡ lengths_fit m b k offsets listed → x ≡ verdict (length_tests fit) → x ≡ Ok tt → 2 * b ≤ k
rows-held m b k offsets listed f e h = (lengths-hold m b k offsets listed (measured e h f)).0

-- what a call that passes has shown
pub lists-passed : {m b : ℕ} {ends : List ℕ} (offsets listed : ℕ) {x : Verdict} → x ≡ verdict (point_lists_tests m b ends offsets listed) → x ≡ Ok tt →
    Rows m b ends × ((offsets ≡ m + 1) × (listed ≡ b))
unfolding point_lists_tests past_points
lists-passed {m} {b} {ends} offsets listed e h =
    let a = stage-passed (length_tests (lengths_fit m b (length ends) offsets listed)) _ (sym e ∙ h) in
    let k = lengths-hold m b (length ends) offsets listed (lengths-fit _ a.0) in
    let n = test-at-passed OutOfRange _ (sym (verdict-one _) ∙ a.1) in
    (record { held = k.0; point = λ r l. leb-false _ _ (none_of _ b n r l) }, (k.1, k.2))

-- what the call leaves where it is refused, and where it passes
module _ {m b : ℕ} {ends offsets listed : List ℕ} {x : Verdict} (e : x ≡ verdict (point_lists_tests m b ends (length offsets) (length listed))) where
  pub call-refused : {r : Refusal} → x ≡ Err r → PointListsCall m b ends offsets listed (Err r) offsets listed
  call-refused h = record { answered = sym h ∙ e; offsets_out = refl; listed_out = refl }

  pub call-passed : {offsets' listed' : List ℕ} → x ≡ Ok tt → offsets' ≡ offsets_of ends b m → listed' ≡ listed_of ends b m →
      PointListsCall m b ends offsets listed (Ok tt) offsets' listed'
  call-passed h o l = record { answered = sym h ∙ e; offsets_out = o; listed_out = l }
