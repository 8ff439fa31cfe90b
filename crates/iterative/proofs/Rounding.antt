-- One round: what its parts leave in the buffer is the method's, from what the calls ensure. Assumes nothing.
use Rattle.std.proofs.Common.{Err, Ok, Result}
use Rattle.network.specs.declared.CameraSum.TheVariants.{Curvature, Product}
use Rattle.network.specs.Refusals.{Verdict}
use Rattle.network.specs.declared.Refusal.{Refusal}
use Rattle.iterative.proofs.Refused.{unless-refused}
use Rattle.std.proofs.Common.{Option}
use mathlib.Core.Path.{ap, refl, sym, ◌∙◌, ◌≡◌}
use mathlib.Core.Logic.{inl, inr}
use mathlib.Core.List.{List}
use mathlib.Core.Bool.{Bool, false, true}
use Prim.Native.Nat.{ℕ, ◌+◌, ◌≤◌}
use native.Mathlib.Omega.{arith}
use lib.ListN.{length}
use lib.Ieee.{Float, add, binary64, sub}
use Rattle.field.proofs.Counting.{length-field}
use Rattle.field.specs.Buffer.{load, store, vector}
use Rattle.field.specs.declared.Vec3.{Vec3}
use Rattle.network.specs.Network.{Links}
use Rattle.network.specs.declared.Shape.{Shape}
use Rattle.system.specs.System.{diagonal_of}
use Rattle.system.specs.Work.{applied_at, matrix_at, positions_at, preconditioned_at, residual_at, search_at, term}
use Rattle.system.specs.inner.Formed.{weights_in}
use Rattle.operator.proofs.OperatorLaws.{by_length}
use Rattle.operator.specs.Operator.{reduced_by}
use Rattle.operator.specs.inner.Applied.{reduced_in}
use Rattle.iterative.proofs.Kept.{kept_same, kept_store, kept_then, other-field, own-field, problem-kept}
use Rattle.iterative.specs.Method.{State, any, bad_curvature, bad_product, bound_of, component, moved, preconditioned, quotient, redirected, round}
use Rattle.iterative.specs.Method.{failed, search_field, square_sum, stays_active, stepped_field, sum_test}
use Rattle.iterative.specs.Problem.{field_dot, first_not_finite}
use Rattle.iterative.specs.declared.Active.{Active}
use Rattle.iterative.specs.declared.Frame.{Frame}
use Rattle.iterative.specs.declared.dot.Dot.{Dot}
use Rattle.iterative.specs.declared.Round.{Round}
use Rattle.std.specs.declared.ops.ControlFlow.TheVariants.{Break, Continue}
use Rattle.iterative.specs.inner.Solver.{Step}
use Rattle.iterative.specs.inner.Solver.{FieldStepped, FieldsFit, MovedAlong, Preconditioned, Ran, Rounded, SystemKept}
use Rattle.iterative.specs.inner.Solver.{continued_by, dot_camera_in, frame_of, problem_in, redirected_by, reduced_system, right_sums}
use Rattle.iterative.specs.inner.Solver.{stepped_by}

module _ (f : Frame) (l : List Float) (R : FieldsFit f.shape (length l)) where
  abbrev s : Shape
  s = f.shape

  abbrev a : ℕ
  a = f.anchor

  abbrev n : ℕ
  n = s.cameras

  -- ---- the new search vector

  module _ (r : Round) (new : Vec3) (l1 : List Float) (from at : ℕ) (ef : from ≡ residual_at s) (ea : at ≡ preconditioned_at s) (D : Preconditioned f from at l l1 new) where
    abbrev z : List Vec3
    z = preconditioned n a (diagonal_of (load term l 0 n)) (load vector l (residual_at s) n)

    size-z : length z ≡ n
    size-z = length-field n _

    stored-z : l1 ≡ store vector l (preconditioned_at s) z
    stored-z = rw (ef, ea) at D.field

    new_is : new ≡ field_dot n a (load vector l (residual_at s) n) z
    new_is = rw ef at D.dot

    kept-z : SystemKept s l l1
    kept-z = kept_store s l _ z l1 stored-z size-z (omega arith) (omega arith) (inr (omega arith))

    at-z : load vector l1 (preconditioned_at s) n ≡ z
    at-z = own-field n l _ z l1 stored-z size-z (omega (arith, R.room))

    at-residual : load vector l1 (residual_at s) n ≡ load vector l (residual_at s) n
    at-residual = other-field n l _ z l1 (residual_at s) stored-z size-z (inr (omega arith))

    -- the product's sum as its fields stand there
    abbrev dot : Dot
    dot = record { cameras = n; anchor = a; first = from; second = at }

    camera-is : dot_camera_in dot l1 ≡ first_not_finite n a (load vector l (residual_at s) n) z
    camera-is = rw (ef, ea, at-residual, at-z) refl

    pub redirect-failed : (p : Option ℕ) {v : Verdict} {q : Refusal} → p ≡ component (bad_product r.active r.old new) → v ≡ sum_test Product p (dot_camera_in dot l1) → v ≡ Err q →
        Ran s (redirected_by f l r) l l1 (Err q)
    redirect-failed p e t h = record { run = λ op. rw (← new_is, ← e, ← camera-is) (sym (unless-refused failed _ t h)); kept = kept-z }

    pub redirect-running : (p : Option ℕ) {v : Verdict} (beta : Vec3) (into : ℕ) (l2 : List Float) → p ≡ component (bad_product r.active r.old new) →
        v ≡ sum_test Product p (dot_camera_in dot l1) → v ≡ Ok tt → into ≡ search_at s →
        beta ≡ quotient new r.old →
        l2 ≡ store vector l1 into (search_field n r.active beta (load vector l1 at n) (load vector l1 into n)) →
        Ran s (redirected_by f l r) l l2 (Ok (Continue (record { old = new; active = r.active; count = r.count })))
    unfolding redirected
    redirect-running p beta into l2 e' t h ei eb e4 =
        let q = search_field n r.active beta (load vector l1 (preconditioned_at s) n) (load vector l1 (search_at s) n) in
        let size-q : length q ≡ n = length-field n _ in
        let stored : l2 ≡ store vector l1 (search_at s) q = rw (ea, ei) at e4 in
        let e : load vector l2 (search_at s) n ≡ q = own-field n l1 _ q l2 stored size-q (omega (arith, R.room, kept-z.outside.size)) in
        let f : load vector l1 (search_at s) n ≡ load vector l (search_at s) n = other-field n l _ z l1 (search_at s) stored-z size-z (inl (omega arith)) in
        let x : load vector l2 (positions_at s) n ≡ load vector l (positions_at s) n = other-field n l1 _ q l2 (positions_at s) stored size-q (inr (omega arith))
        ∙ other-field n l _ z l1 (positions_at s) stored-z size-z (inr (omega arith)) in
        let y : load vector l2 (residual_at s) n ≡ load vector l (residual_at s) n = other-field n l1 _ q l2 (residual_at s) stored size-q (inr (omega arith))
        ∙ at-residual in
        let w : sum_test Product (component (bad_product r.active r.old new)) (first_not_finite n a (load vector l (residual_at s) n) z) ≡ Ok tt = rw (← e', ← camera-is) (sym t ∙ h) in
        record {
          run = λ op. rw (← new_is, w, x, y, e, at-z, f, eb);
          kept = kept_then kept-z (kept_store s l1 _ q l2 stored size-q (omega arith) (omega arith) (inr (omega arith)));
        }

  -- ---- on, where a component is active

  pub continue-running : (r : Round) (b : Bool) (l1 : List Float) (t : Result Step Refusal) → b ≡ any r.active → b ≡ true → Ran s (redirected_by f l r) l l1 t → Ran s (continued_by f l r) l l1 t
  continue-running r b l1 t e h D = let q : any r.active ≡ true = sym e ∙ h in record { run = λ op. rw q (D.run op); kept = D.kept }

  pub continue-ended : (r : Round) (b : Bool) → b ≡ any r.active → b ≡ false → Ran s (continued_by f l r) l l (Ok (Break r))
  continue-ended r b e h = let q : any r.active ≡ false = sym e ∙ h in record { run = λ op. rw q; kept = kept_same s l }

  -- ---- the step along the search vector

  pub moved-done : (r : Round) (curvature alpha bound sums v : Vec3) (active : Active) (p q p' q' : ℕ) (l1 l2 : List Float) →
      alpha ≡ quotient r.old curvature → p ≡ positions_at s → q ≡ search_at s → p' ≡ residual_at s → q' ≡ applied_at s →
      FieldStepped f (add binary64) r.active alpha p q l l1 v → FieldStepped f (sub binary64) r.active alpha p' q' l1 l2 sums →
      active ≡ stays_active bound r.active sums → bound ≡ bound_of (right_sums f l) →
      MovedAlong f r curvature l l2 (record { old = r.old; active = active; count = r.count + 1 })
  unfolding moved square_sum
  moved-done r curvature alpha bound sums v active p q p' q' l1 l2 e1 ep eq ep' eq' D D' ea eb =
      let x = stepped_field n a (add binary64) r.active alpha (load vector l (positions_at s) n) (load vector l (search_at s) n) in
      let y = stepped_field n a (sub binary64) r.active alpha (load vector l1 (residual_at s) n) (load vector l1 (applied_at s) n) in
      let e2 : l1 ≡ store vector l (positions_at s) x = rw (ep, eq) at D.field in
      let e3 : l2 ≡ store vector l1 (residual_at s) y = rw (ep', eq') at D'.field in
      let es : sums ≡ field_dot n a y y = rw (ep', eq') at D'.dot in
      let size-x : length x ≡ n = length-field n _ in
      let size-y : length y ≡ n = length-field n _ in
      let kept-x : SystemKept s l l1 = kept_store s l _ x l1 e2 size-x (omega arith) (omega arith) (inl (omega arith)) in
      let P : load vector l2 (positions_at s) n ≡ x = other-field n l1 _ y l2 (positions_at s) e3 size-y (inr (omega arith)) ∙ own-field n l _ x l1 e2 size-x (omega (arith, R.room)) in
      let Q : load vector l2 (search_at s) n ≡ load vector l (search_at s) n = other-field n l1 _ y l2 (search_at s) e3 size-y (inl (omega arith))
      ∙ other-field n l _ x l1 (search_at s) e2 size-x (inl (omega arith)) in
      let S : load vector l1 (residual_at s) n ≡ load vector l (residual_at s) n = other-field n l _ x l1 (residual_at s) e2 size-x (inl (omega arith)) in
      let T : load vector l1 (applied_at s) n ≡ load vector l (applied_at s) n = other-field n l _ x l1 (applied_at s) e2 size-x (inl (omega arith)) in
      let U : load vector l2 (residual_at s) n ≡ y = own-field n l1 _ y l2 e3 size-y (omega (arith, R.room, kept-x.outside.size)) in
      record {
        state = λ op. rw (ea, es, eb, P, Q, U, S, T, e1);
        kept = kept_then kept-x (kept_store s l1 _ y l2 e3 size-y (omega arith) (omega arith) (inr (omega arith)));
      }

  -- ---- the round, once the system has been applied to the search vector

  module _ (r : Round) (curvature : Vec3) (p q : ℕ) (place : Option ℕ) (ep : p ≡ search_at s) (eq : q ≡ applied_at s) (e0 : curvature ≡ field_dot n a (load vector l p n) (load vector l q n))
      (ec : place ≡ component (bad_curvature r.active r.old curvature)) where
    curvature-is : curvature ≡ field_dot n a (load vector l (search_at s) n) (load vector l (applied_at s) n)
    curvature-is = rw (ep, eq) at e0

    -- the curvature's sum as its fields stand there
    abbrev product : Dot
    product = record { cameras = n; anchor = a; first = p; second = q }

    fields-are : dot_camera_in product l ≡ first_not_finite n a (load vector l (search_at s) n) (load vector l (applied_at s) n)
    fields-are = rw (ep, eq) refl

    pub step-failed : {v : Verdict} {q : Refusal} → v ≡ sum_test Curvature place (dot_camera_in product l) → v ≡ Err q → Ran s (stepped_by f l r) l l (Err q)
    step-failed t h = record { run = λ op. rw (← curvature-is, ← ec, ← fields-are) (sym (unless-refused failed _ t h)); kept = kept_same s l }

    pub step-done : {v : Verdict} (l1 l2 : List Float) (t : Round) (x : Result Step Refusal) → v ≡ sum_test Curvature place (dot_camera_in product l) → v ≡ Ok tt →
        MovedAlong f r curvature l l1 t → Ran s (continued_by f l1 t) l1 l2 x → Ran s (stepped_by f l r) l l2 x
    step-done l1 l2 t x h k M C =
        let w : sum_test Curvature (component (bad_curvature r.active r.old curvature))
        (first_not_finite n a (load vector l (search_at s) n) (load vector l (applied_at s) n)) ≡ Ok tt = rw (← ec, ← fields-are) (sym h ∙ k) in
        record {
          run = λ op. C.run op ∙ rw (problem-kept s a l l1 op M.kept, ap (λ (v : State). any v.round.active) (M.state op), M.state op, ← curvature-is, w);
          kept = kept_then M.kept C.kept;
        }

-- ---- the whole round

-- z and f are the shape and the frame as they were read
module _ (L : Links) (z : Shape) (ez : z ≡ L.shape) (a from into : ℕ) (l l1 : List Float) (ef : from ≡ search_at z) (ei : into ≡ applied_at z)
    (e : l1 ≡ reduced_in L a from into l) where
  abbrev own : Frame
  own = frame_of (reduced_system L a)

  abbrev w : List Vec3
  w = reduced_by L (weights_in own.shape l) a (load vector l (search_at own.shape) own.shape.cameras)

  stored : l1 ≡ store vector l (applied_at own.shape) w
  stored = rw (ef, ei, ez) at e

  applied-kept : SystemKept own.shape l l1
  applied-kept = kept_store own.shape l _ _ l1 stored (by_length L _ a _) (omega arith) (omega arith) (inr (omega arith))

  pub bound-after : (f : Frame) (bound : Vec3) → f ≡ own → bound ≡ bound_of (right_sums own l) → bound ≡ bound_of (right_sums f l1)
  bound-after f bound eb h = rw (eb, applied-kept.right) h

  pub rounded : (f : Frame) (l2 : List Float) (r : Round) (x : Result Step Refusal) → f ≡ own → matrix_at own.shape ≤ length l → Ran f.shape (stepped_by f l1 r) l1 l2 x → Rounded own.shape (problem_in L a l) r l l2 x
  unfolding round
  rounded f l2 r x eb room D0 =
      let D : Ran own.shape (stepped_by own l1 r) l1 l2 x = rw eb at D0 in
      let n = own.shape.cameras in
      let size : length w ≡ n = by_length L _ a _ in
      let f : load vector l1 (applied_at own.shape) n ≡ w = own-field n l _ w l1 stored size (omega arith) in
      let p : load vector l1 (positions_at own.shape) n ≡ load vector l (positions_at own.shape) n = other-field n l _ w l1 (positions_at own.shape) stored size (inr (omega arith)) in
      let y : load vector l1 (residual_at own.shape) n ≡ load vector l (residual_at own.shape) n = other-field n l _ w l1 (residual_at own.shape) stored size (inr (omega arith)) in
      let z : load vector l1 (search_at own.shape) n ≡ load vector l (search_at own.shape) n = other-field n l _ w l1 (search_at own.shape) stored size (inr (omega arith)) in
      record {
        run = D.run (reduced_by L (weights_in own.shape l) a) ∙ rw (problem-kept own.shape a l l1 (reduced_by L (weights_in own.shape l) a) applied-kept, f, p, y, z);
        kept = kept_then applied-kept D.kept;
      }
