-- Laws of runs that may break down. Assumes nothing.
use mathlib.Core.Path.{◌≡◌, refl, ◌∙◌}
use mathlib.Core.Logic.{⊎_elim}
use Prim.Native.Nat.{ℕ, zero, suc, ◌≤◌, ◌<◌}
use native.Mathlib.Nat.{eq-or-lt_of_le}
use native.Mathlib.Omega.{arith}
use Rattle.std.proofs.Common.{Result, Ok, Err}
use Rattle.cholesky.specs.declared.Breakdown.{Breakdown}
use Rattle.cholesky.specs.Cholesky.{run}

module _ {A : Type 0} (f : ℕ → A → Result A Breakdown) where
  pub run_none : (s : A) → run f 0 s ≡ Ok s
  unfolding run
  run_none s = refl

  pub run_more : (n : ℕ) (s t : A) → run f n s ≡ Ok t → run f (suc n) s ≡ f n t
  unfolding run
  run_more n s t e = rw e

  -- a run that has broken down stays so
  run-stays : (k n : ℕ) (s : A) (b : Breakdown) → run f k s ≡ Err b → k ≤ n → run f n s ≡ Err b
  unfolding run
  run-stays k zero s b e h = rw (let z : k ≡ 0 = omega arith in z) at e
  run-stays k (suc n) s b e h =
      ⊎_elim
      (λ (o : k ≡ suc n). rw o at e)
      (λ (o : k < suc n). rw (run-stays k n s b e (omega arith)))
      (eq-or-lt_of_le h)

  pub run-stops : (k n : ℕ) (s t : A) (b : Breakdown) → run f k s ≡ Ok t → f k t ≡ Err b → k < n → run f n s ≡ Err b
  run-stops k n s t b e g h = run-stays (suc k) n s b (run_more k s t e ∙ g) h
