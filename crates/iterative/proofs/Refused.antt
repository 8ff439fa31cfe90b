-- What comes of a test that was made: v is what was got of it. Assumes nothing.
use Rattle.std.proofs.Common.{ℕ, ◌≡◌, refl, Option, Some, None, Ok, Err}
use Rattle.field.specs.Vec.{Axis}
use Rattle.network.specs.declared.CameraSum.{CameraSum}
use Rattle.network.specs.Refusals.{Verdict}
use Rattle.network.specs.declared.Refusal.{Refusal}
use Rattle.network.proofs.Verdicts.{refused-passed}
use Rattle.iterative.specs.Method.{sum_test, unless}

module _ {A : Type 0} (f : Refusal → A) (x : A) {v w : Verdict} (e : v ≡ w) where
  pub unless-refused : {q : Refusal} → v ≡ Err q → unless f w x ≡ f q
  unless-refused h = rw (← e, h) refl

  pub unless-passed : v ≡ Ok tt → unless f w x ≡ x
  unless-passed h = rw (← e, h) refl

pub sum-passed : (s : CameraSum) (p : Option ℕ) (camera : Axis → ℕ) → sum_test s p camera ≡ Ok tt → p ≡ None
unfolding sum_test
sum-passed s (Some i) camera h = absurd (refused-passed _ h)
sum-passed s None camera h = refl
