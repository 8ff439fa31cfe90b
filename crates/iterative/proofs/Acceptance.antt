-- The acceptance theorem: what the method ends with is `Accepted`. A finite final residual has finite terms, so every difference that it squares is
-- finite, and with it both sides of the difference: the right side, so that the allowed residual is no NaN, and the operator's output, so that the
-- cameras are finite. One argument for x, y and z, over any system that is `Regular`. Assumes nothing.
use Rattle.std.proofs.Common.{None, Option, Some}
use mathlib.Core.Path.{◌≡◌, refl, sym, ap, ◌∙◌, subst}
use mathlib.Core.Bool.{Bool, true, false, not}
use mathlib.Core.List.{List}
use Prim.Native.Nat.{ℕ, ◌<◌, ◌≤◌}
use native.Mathlib.Omega.{arith}
use borrow.Author.Tests.{eqb-true, eqb-false, not-false}
use lib.Dec.{eqb}
use lib.ListN.{length}
use lib.Ieee.{binary64, lt, le, of_bits, is_nan}
use lib.Ieee.Scale.{finite}
use Rattle.field.specs.declared.Vec3.{Vec3}
use Rattle.field.specs.Vec.{Axis, X, Y, Z, at, on, null, origin}
use Rattle.field.proofs.Vectors.{on-minus, on-origin}
use Rattle.field.proofs.Counting.{length-field, get_or-field, none_of}
use Rattle.double.proofs.Finite.{finite-sub, finite-no-nan}
use Rattle.double.proofs.Truth.{neither}
use Rattle.double.proofs.Order.{le_of_not_lt}
use Rattle.network.specs.Network.{Network, links_of}
use Rattle.network.specs.declared.CameraSum.TheVariants.{Residual}
use Rattle.network.specs.inner.Sound.{NetworkSound}
use Rattle.system.specs.System.{terms, anchor, weights_of}
use Rattle.operator.proofs.OperatorLaws.{by-finite}
use Rattle.iterative.specs.Problem.{Problem, Faithful, Regular, most_rounds}
use Rattle.iterative.specs.Method.{State, Run, running, ended, failed, accepted as taken, component, bad_residual, difference_entry, refused, residual_field, square_sum, sum_test, unless}
use Rattle.iterative.specs.Method.{allowed, rounds, residual_of, closed, solution}
use Rattle.iterative.specs.Reduced.{problem, problem_by}
use Rattle.system.proofs.Anchor.{anchor-below}
use Rattle.iterative.specs.Accepted.{Accepted, Fits}
use Rattle.iterative.proofs.CameraSums.{finite-dot, unsigned-squares}
use Rattle.iterative.proofs.Tolerances.{allowed-no-nan}
use Rattle.iterative.proofs.RunInvariant.{Shaped, Reached, rounds-reached}

-- ---- what the final test says

pub component-none : (p : Axis → Bool) → component p ≡ None → (k : Axis) → p k ≡ false
component-none p e X = none_of _ 3 e 0 (omega arith)
component-none p e Y = none_of _ 3 e 1 (omega arith)
component-none p e Z = none_of _ 3 e 2 (omega arith)

-- a component passes: its residual is finite, and not above the allowed
abbrev pub Passes : Vec3 → Vec3 → Axis → Type 0
Passes most residual k = (finite (on k residual) ≡ true) × (lt (on k most) (on k residual) ≡ false)

passes : (most residual : Vec3) (k : Axis) → bad_residual most residual k ≡ false → Passes most residual k
unfolding bad_residual
passes most residual k e = let h = neither (not (finite (on k residual))) (lt (on k most) (on k residual)) e in (not-false _ h.0, h.1)

-- ---- what the run that is accepted has been

record Closed (P : Problem) (m : ℕ) (s : State) : Type 0 where
  shaped : Shaped P s
  count : s.round.count ≤ m
  passed : component (bad_residual (allowed P) (residual_of P s.positions)) ≡ None

module _ (P : Problem) (m : ℕ) (s : State) where
  tested-closed : (t : State) (p : Option ℕ) (camera : Axis → ℕ) → component (bad_residual (allowed P) (residual_of P t.positions)) ≡ p →
      unless refused (sum_test Residual p camera) (taken t) ≡ taken s → Shaped P t → t.round.count ≤ m → Closed P m s
  unfolding sum_test
  tested-closed t (Some i) camera q e h l = absurd (let z : ◌≡◌ {A = ℕ} 0 1 = cc in omega arith)
  tested-closed t None camera q e h l =
      let z : t ≡ s = cc in
      subst (Closed P m) z (record { shaped = h; count = l; passed = q })

  closed_of : (r : Run) → Reached P m r → closed P r ≡ taken s → Closed P m s
  closed_of (running t) h e = tested-closed t _ _ refl e h.kept (omega arith)
  closed_of (ended t) h e = tested-closed t _ _ refl e h.kept h.count
  closed_of (failed r) h e = absurd (let z : ◌≡◌ {A = ℕ} 0 1 = cc in omega arith)

-- ---- what a residual that passes says of the cameras x, whichever method they come from

module _ (P : Problem) (x : List Vec3) (k : Axis) (e : finite (on k (residual_of P x)) ≡ true) (i : ℕ) (l : i < P.cameras) (d : i ≡ P.anchor → ⊥) where
  -- both sides of each difference are finite
  sides-finite : (finite (on k (at (P.operator x) i)) ≡ true) × (finite (on k (at P.right i)) ≡ true)
  unfolding residual_of difference_entry
  sides-finite =
      let u = P.operator x in
      let f = residual_field P x in
      let h = (finite-dot k P.anchor f f P.cameras e i l d).0 in
      finite-sub binary64 _ _ (sym (ap finite (ap (on k) (get_or-field P.cameras (difference_entry u P.right) i origin l) ∙ on-minus k _ _)) ∙ h)

null-finite : finite null ≡ true
unfolding of_bits
null-finite = refl

-- where the anchor is at zero, every coordinate is finite
pub coordinate-finite : (P : Problem) → Regular P → (x : List Vec3) → at x P.anchor ≡ origin → (k : Axis) → finite (on k (residual_of P x)) ≡ true → (i : ℕ) → i < P.cameras →
    finite (on k (at x i)) ≡ true
coordinate-finite P S x z k e i l = go (eqb i P.anchor) refl
  where
    go : (b : Bool) → eqb i P.anchor ≡ b → finite (on k (at x i)) ≡ true
    go true q = rw (eqb-true i P.anchor q) (ap finite (ap (on k) z ∙ on-origin k) ∙ null-finite)
    go false q = let d = eqb-false i P.anchor q in S.faithful k x i l d (sides-finite P x k e i l d).0

-- not above the allowed is at most the allowed, which is no NaN because the right side is finite
pub residual-within : (P : Problem) (x : List Vec3) (k : Axis) → Passes (allowed P) (residual_of P x) k → le (on k (residual_of P x)) (on k (allowed P)) ≡ true
unfolding square_sum
residual-within P x k (e, h) =
    let right : (i : ℕ) → i < P.cameras → (i ≡ P.anchor → ⊥) → is_nan (on k (at P.right i)) ≡ false = λ i l d. finite-no-nan _ (sides-finite P x k e i l d).1 in
    le_of_not_lt _ _ (finite-no-nan _ e) (allowed-no-nan k (square_sum P) (unsigned-squares k P.cameras P.anchor P.right right)) h

-- ---- the theorem, of any n cameras with the anchor at zero that pass the final test

pub fits : (P : Problem) → Regular P → (x : List Vec3) → length x ≡ P.cameras → at x P.anchor ≡ origin → component (bad_residual (allowed P) (residual_of P x)) ≡ None → Fits P x
fits P S x n z e =
    let passed : (k : Axis) → Passes (allowed P) (residual_of P x) k = λ k. passes (allowed P) (residual_of P x) k (component-none (bad_residual (allowed P) (residual_of P x)) e k) in
    record {
      placed = n;
      held = S.held;
      coordinates = λ k. coordinate-finite P S x z k (passed k).0;
      anchor = z;
      residual = λ k. (passed k).0;
      within = λ k. residual-within P x k (passed k);
    }

-- and of what the written method ends with
pub accepted : (P : Problem) → Regular P → (s : State) → solution P ≡ taken s → Accepted P s.positions s.round.count
unfolding solution
accepted P S s e =
    let m = most_rounds P.cameras in
    let c = closed_of P m s (rounds P m) (rounds-reached P S m) e in
    record {
      fits = fits P S s.positions c.shaped.positions c.shaped.anchor c.passed;
      method = record { state = s; method = e; positions = refl; rounds = refl; most = c.count };
    }

-- ---- the system that a network forms

pub faithful : (net : Network) → Faithful (problem net)
unfolding problem_by
faithful net k x i l d e = by-finite (links_of net) (weights_of net) (anchor net) x k i l d e

pub regular : (net : Network) → 0 < net.shape.cameras → Regular (problem net)
unfolding problem_by
regular net h = record { held = anchor-below (terms net) net.shape.cameras h; right = length-field _ _; faithful = faithful net }

pub accepted-network : (net : Network) → NetworkSound net → (s : State) → solution (problem net) ≡ taken s → Accepted (problem net) s.positions s.round.count
accepted-network net N = accepted (problem net) (regular net N.links.ends.shape.some)
