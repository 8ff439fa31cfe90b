-- The steps of the factor, as code tells them. Assumes nothing.
use mathlib.Core.Path.{◌≡◌, sym}
use mathlib.Core.Bool.{Bool, cond, ◌&&◌}
use mathlib.Core.List.{List}
use Prim.Native.Nat.{ℕ, ◌+◌, ◌*◌, ◌<◌}
use lib.ListN.{set}
use lib.Ieee.{Float, binary64, div, lt}
use lib.Ieee.Scale.{finite}
use Rattle.field.specs.Vec.{null}
use Rattle.sqrt.specs.Root.{root}
use Rattle.std.proofs.Common.{Result, Ok, Err}
use Rattle.std.specs.Result.{IsErrAnd}
use Rattle.cholesky.specs.declared.Breakdown.{Breakdown}
use Rattle.cholesky.specs.declared.Breakdown.TheVariants.{Pivot, Factor}
use Rattle.cholesky.specs.Cholesky.{run, ended, entry, remainder, factor_entry, pivot, factor_row}
use Rattle.cholesky.proofs.Runs.{run-stops}

module _ (d : ℕ) where
  -- v is the remainder and w the pivot
  pub entry-step : (i j : ℕ) (A : List Float) (v w : Float) (b : Bool) →
      v ≡ remainder d A i j →
      w ≡ entry d A j j →
      finite (div binary64 v w) ≡ b →
      factor_entry d i j A ≡ cond b (Ok (set A (i * d + j) (div binary64 v w))) (Err (Factor i))
  unfolding factor_entry
  entry-step i j A v w b e g f = rw (← e, ← g, f)

  pub pivot-step : (i : ℕ) (A : List Float) (v : Float) (b : Bool) →
      v ≡ remainder d A i i →
      (finite v && lt null v) ≡ b →
      pivot d i A ≡ cond b (Ok (set A (i * d + i) (root binary64 v))) (Err (Pivot i))
  unfolding pivot
  pivot-step i A v b e f = rw (← e, f)

  -- a row: its entries in order, then its pivot
  pub row-stops : (i j : ℕ) (A B : List Float) (b : Breakdown) →
      run (factor_entry d i) j A ≡ Ok B →
      factor_entry d i j B ≡ Err b →
      j < i →
      factor_row d i A ≡ Err b
  unfolding factor_row
  row-stops i j A B b e f h = rw (run-stops (factor_entry d i) j i A B b e f h)

  pub row_ends : (i : ℕ) (A B : List Float) → run (factor_entry d i) i A ≡ Ok B → factor_row d i A ≡ pivot d i B
  unfolding factor_row
  row_ends i A B e = rw e

-- what a step's answer says of the run
pub ended-done : {A : Type 0} (s : Result (Unit {0}) Breakdown) (x : A) (r : Result A Breakdown) → ended s x ≡ r → s ≡ Ok tt → r ≡ Ok x
ended-done s x r e f = sym (rw f at e)

pub ended-stopped : {A : Type 0} (s : Result (Unit {0}) Breakdown) (x : A) (r : Result A Breakdown) (b : Breakdown) → ended s x ≡ r → s ≡ Err b → r ≡ Err b
ended-stopped s x r b e f = sym (rw f at e)

-- what a `?` hands out: the breakdown that it met
pub given : {A : Type 0} {y : Result A Breakdown} {b : Breakdown} → IsErrAnd y (λ e. e ≡ b) → y ≡ Err b
given {y = Ok a} q = absurd q
given {y = Err e} q = rw q
