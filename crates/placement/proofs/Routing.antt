-- How the answers of the dense and of the iterative solve make those of the routes, from what the calls ensure. Assumes nothing.
use Rattle.std.proofs.Common.{Err, Ok, Result}
use Rattle.network.specs.declared.Cause.TheVariants.{Dimension}
use Prim.Native.Nat.{ℕ, zero, suc, ◌+◌, ◌-◌, ◌≤◌, ◌<◌}
use mathlib.Core.Path.{◌≡◌, refl, sym, ap, ap₂, ◌∙◌}
use mathlib.Core.List.{List}
use mathlib.Core.Bool.{false, true, true≢false}
use native.Mathlib.Omega.{arith}
use lib.Dec.{leb}
use lib.ListN.{length, drop}
use lib.Seq.{drop-drop}
use lib.Ieee.{Float}
use borrow.Author.Tests.{le-leb, le-ltb, lt-leb, lt-ltb, ne_eqb}
use Rattle.field.specs.declared.Vec3.{Vec3}
use Rattle.network.specs.declared.Refusal.{Refusal}
use Rattle.network.specs.declared.Shape.{Shape}
use Rattle.network.specs.Network.{Links}
use Rattle.network.specs.Refusals.{bad_route, dense_rows}
use Rattle.system.specs.Work.{matrix_at, term, weights_at, work_end, work_length}
use Rattle.system.specs.inner.Formed.{positions_in, weights_in}
use Rattle.system.proofs.Segments.{work-length-is}
use Rattle.operator.proofs.Buffered.{weights-kept}
use Rattle.iterative.specs.Method.{Ending, State, accepted, refused, solution}
use Rattle.iterative.specs.Problem.{Problem}
use Rattle.iterative.specs.Reduced.{problem_by}
use Rattle.field.specs.Buffer.{load}
use Rattle.iterative.specs.inner.Solver.{IterativeSolved, answer_of}
use Rattle.iterative.proofs.Kept.{segments-outside}
use Rattle.cholesky.specs.declared.Breakdown.{Breakdown}
use Rattle.cholesky.specs.Cholesky.{ended}
use Rattle.dense.specs.Dense.{dimension}
use Rattle.dense.specs.inner.Held.{DenseSolved}
use Rattle.dense.proofs.Solving.{segments-kept}
use Rattle.placement.specs.declared.routes.Finish.{Finish}
use Rattle.placement.specs.declared.routes.Route.{Route}
use Rattle.placement.specs.declared.routes.Route.TheVariants.{Iterative}
use Rattle.placement.specs.Routes.{Placement, broken, failing, placed, failing_at, by_dense, dense_or, by_iterative, fall_back, routed_by}
use Rattle.placement.specs.inner.Routing.{RouteReady, Routed, dense_in, ended_with, iterative_in, route_number}

-- ---- the length of the work buffer

-- it reaches to the dense matrix
pub work-room : (s : Shape) (route limit : ℕ) → matrix_at s ≤ work_length s route limit
unfolding work_length
work-room s route limit = omega arith

-- and to the end of the dense system, where the route goes dense
dense-end : (s : Shape) (route limit : ℕ) → bad_route route limit ≡ false → (route ≡ 2 → ⊥) → dimension s ≤ limit → work_length s route limit ≡ work_end s (dimension s)
unfolding dense_rows
dense-end s route limit e h k = work-length-is s route limit ∙ rw (e, ne_eqb route 2 h, le-ltb limit (dimension s) k)

module _ (s : Shape) (a route limit size : ℕ) (R : RouteReady s a route limit size) where
  pub dense-room : (route ≡ 2 → ⊥) → dimension s ≤ limit → work_end s (dimension s) ≤ size
  dense-room h k = rw (← dense-end s route limit R.legal h k) R.room

  pub matrix-room : matrix_at s ≤ size
  matrix-room = let w = work-room s route limit in omega (arith, w, R.room)

-- the numbers after a place are as they were, so those after a later place are
pub surplus-more : (p q : ℕ) (l l' : List Float) → drop p l' ≡ drop p l → p ≤ q → drop q l' ≡ drop q l
surplus-more p q l l' e h =
    let k : q ≡ p + (q - p) = omega arith in
    rw k (sym (drop-drop (q - p) p l') ∙ ap (drop (q - p)) e ∙ drop-drop (q - p) p l)

-- ---- a route that has nothing to do, and the same one under another name

same : (s : Shape) (t : ℕ) (x : Placement) (l : List Float) (r : Result Finish Refusal) → ended_with r (positions_in s l) ≡ x → Routed s t x l l r
same s t x l r e = record { answer = e; segments = λ w ts S. S; surplus = refl; size = refl }

renamed : (s : Shape) (t u : ℕ) (x y : Placement) (l l' : List Float) (r : Result Finish Refusal) → t ≡ u → x ≡ y → Routed s t x l l' r → Routed s u y l l' r
renamed s t u x y l l' r e f R = record { answer = R.answer ∙ f; segments = R.segments; surplus = rw (← e) R.surplus; size = R.size }

-- ---- dense

module _ (s : Shape) (d : ℕ) (route : Route) (y : Result (List Vec3) Breakdown) (l l' : List Float) (r : Result (Unit {0}) Breakdown) (S : DenseSolved s d y l l' r) where
  dense-routed : (q : Result Finish Refusal) → ended_with q (positions_in s l') ≡ by_dense (route_number route) y → Routed s (work_end s d) (by_dense (route_number route) y) l l' q
  dense-routed q e = record { answer = e; segments = λ w ts. segments-kept s d w ts l l' S.kept; surplus = S.kept.surplus; size = S.kept.size }

  ending : (x : Result (Unit {0}) Breakdown) → r ≡ x → ended x (positions_in s l') ≡ y
  ending x e = ap (λ (z : Result (Unit {0}) Breakdown). ended z (positions_in s l')) (sym e) ∙ S.answer

  dense-done : r ≡ Ok tt → Routed s (work_end s d) (by_dense (route_number route) y) l l' (Ok (record { route = route; rounds = 0 }))
  dense-done e = dense-routed _ (ap (by_dense (route_number route)) (ending (Ok tt) e))

  dense-stopped : (b : Breakdown) {q : Refusal} → r ≡ Err b → q ≡ broken b → Routed s (work_end s d) (by_dense (route_number route) y) l l' (Err q)
  dense-stopped b e f = rw f (dense-routed _ (ap (by_dense (route_number route)) (ending (Err b) e)))

-- ---- within the limit or not

module _ (L : Links) (a : ℕ) (route : Route) (limit : ℕ) (l : List Float) where
  abbrev s : Shape
  s = L.shape

  abbrev y : Result (List Vec3) Breakdown
  y = dense_in L a l

  module _ (q : Refusal) where
    abbrev within : Placement
    within = dense_or (leb (dimension s) limit) (route_number route) y (failing q)

    pub dense-over : limit < dimension s → Routed s (work_length s (route_number route) limit) within l l (Err q)
    dense-over h = same s _ _ l _ (rw (lt-leb (dimension s) limit h))

    module _ (l' : List Float) (r : Result (Unit {0}) Breakdown) (R : RouteReady s a (route_number route) limit (length l)) (g : route_number route ≡ 2 → ⊥) (h : dimension s ≤ limit)
        (S : DenseSolved s (dimension s) y l l' r) where
      renamed-dense : (o : Result Finish Refusal) → Routed s (work_end s (dimension s)) (by_dense (route_number route) y) l l' o → Routed s (work_length s (route_number route) limit) within l l' o
      renamed-dense o D = renamed s _ _ _ _ l l' o (sym (dense-end s (route_number route) limit R.legal g h)) (rw (le-leb (dimension s) limit h)) D

      pub dense-within : r ≡ Ok tt → Routed s (work_length s (route_number route) limit) within l l' (Ok (record { route = route; rounds = 0 }))
      dense-within e = renamed-dense _ (dense-done s (dimension s) route y l l' r S e)

      pub dense-broken : (b : Breakdown) {p : Refusal} → r ≡ Err b → p ≡ broken b → Routed s (work_length s (route_number route) limit) within l l' (Err p)
      dense-broken b e f = renamed-dense _ (dense-stopped s (dimension s) route y l l' r S b e f)

-- ---- iterative

-- the definition's answer where the method refuses, and where it places the cameras
ending-refused : (x : Ending) (q : Refusal) → answer_of x ≡ Err q → x ≡ refused q
ending-refused (accepted t) q e = let z : ◌≡◌ {A = ℕ} 0 1 = cc in absurd (omega arith)
ending-refused (refused r) q e = let u : r ≡ q = cc in ap refused u

ending-placed : (P : Problem) (x : Ending) (k : ℕ) (f : Refusal → Placement) (cs : List Vec3) → solution P ≡ x → answer_of x ≡ Ok k →
    ((t : State) → solution P ≡ accepted t → cs ≡ t.positions) → placed 2 k cs ≡ by_iterative x f
ending-placed P (accepted t) k f cs q e h = let u : k ≡ t.round.count = cc in ap₂ (placed 2) u (h t q)
ending-placed P (refused r) k f cs q e h = let z : ◌≡◌ {A = ℕ} 0 1 = cc in absurd (omega arith)

module _ (L : Links) (a route limit : ℕ) (l l1 : List Float) (o : Result ℕ Refusal)
    (S : IterativeSolved L.shape (problem_by L (weights_in L.shape l) (load term l 0 L.shape.cameras) a) l l1 o) where
  outside-surplus : drop (work_length L.shape route limit) l1 ≡ drop (work_length L.shape route limit) l
  outside-surplus = let w = work-room L.shape route limit in surplus-more (weights_at L.shape) (work_length L.shape route limit) l l1 S.outside.rest (omega (arith, w))

  pub ready-after : RouteReady L.shape a route limit (length l) → RouteReady L.shape a route limit (length l1)
  ready-after R = record { anchor = R.anchor; legal = R.legal; room = rw S.outside.size R.room }

  iterative-routed : (x : Placement) (r : Result Finish Refusal) → ended_with r (positions_in L.shape l1) ≡ x → Routed L.shape (work_length L.shape route limit) x l l1 r
  iterative-routed x r e = record { answer = e; segments = λ w ts. segments-outside L.shape w ts l l1 S.outside; surplus = outside-surplus; size = S.outside.size }

  pub iterative-placed : (f : Refusal → Placement) (k : ℕ) (t : Finish) → o ≡ Ok k → t ≡ record { route = Iterative; rounds = k } →
      Routed L.shape (work_length L.shape route limit) (by_iterative (iterative_in L a l) f) l l1 (Ok t)
  iterative-placed f k t e g = rw g (iterative-routed _ _ (ending-placed _ (iterative_in L a l) k f (positions_in L.shape l1) refl (sym S.answer ∙ e) S.positions))

  module _ (q : Refusal) (e : o ≡ Err q) where
    refused-by : iterative_in L a l ≡ refused q
    refused-by = ending-refused _ q (sym S.answer ∙ e)

    pub iterative-failed : Routed L.shape (work_length L.shape route limit) (by_iterative (iterative_in L a l) failing) l l1 (Err q)
    iterative-failed = iterative-routed _ _ (rw refused-by)

    pub dense-after : (l2 : List Float) (r : Result Finish Refusal) →
        Routed L.shape (work_length L.shape route limit) (dense_or (leb (dimension L.shape) limit) 3 (dense_in L a l1) (failing q)) l1 l2 r →
        Routed L.shape (work_length L.shape route limit) (by_iterative (iterative_in L a l) (fall_back (dimension L.shape) limit (dense_in L a l))) l l2 r
    dense-after l2 r R =
        let w = weights-kept L.shape l l1 S.outside.rest in
        record {
          answer = R.answer ∙ rw (refused-by, w, S.outside.terms);
          segments = λ v ts T. R.segments v ts (segments-outside L.shape v ts l l1 S.outside T);
          surplus = R.surplus ∙ outside-surplus;
          size = R.size ∙ S.outside.size;
        }

-- ---- the routes

pub no-fourth : (k limit : ℕ) → bad_route (suc (suc (suc (suc k)))) limit ≡ true
unfolding bad_route
no-fourth k limit = rw (le-ltb (suc (suc (suc (suc k)))) 1 (omega arith), lt-ltb 3 (suc (suc (suc (suc k)))) (omega arith))

module _ (d limit : ℕ) (x : Ending) (y : Result (List Vec3) Breakdown) where
  -- what holds of the three routes holds of a route that 8 does not refuse
  pub route-cases : (P : Placement → Type 0) (route : ℕ) → bad_route route limit ≡ false → P (dense_or (leb d limit) 1 y (failing_at Dimension d)) →
      P (by_iterative x failing) → P (by_iterative x (fall_back d limit y)) → P (routed_by d route limit x y)
  unfolding routed_by bad_route
  route-cases P zero e p q r = absurd (true≢false e)
  route-cases P (suc zero) e p q r = p
  route-cases P (suc (suc zero)) e p q r = q
  route-cases P (suc (suc (suc zero))) e p q r = r
  route-cases P (suc (suc (suc (suc k)))) e p q r = absurd (true≢false (sym (no-fourth k limit) ∙ e))

module _ (s : Shape) (limit : ℕ) (x : Ending) (y : Result (List Vec3) Breakdown) (l l' : List Float) (r : Result Finish Refusal) where
  pub route-dense : Routed s (work_length s 1 limit) (dense_or (leb (dimension s) limit) 1 y (failing_at Dimension (dimension s))) l l' r →
      Routed s (work_length s 1 limit) (routed_by (dimension s) 1 limit x y) l l' r
  unfolding routed_by
  route-dense R = R

  pub route-iterative : Routed s (work_length s 2 limit) (by_iterative x failing) l l' r → Routed s (work_length s 2 limit) (routed_by (dimension s) 2 limit x y) l l' r
  unfolding routed_by
  route-iterative R = R

  pub route-both : Routed s (work_length s 3 limit) (by_iterative x (fall_back (dimension s) limit y)) l l' r →
      Routed s (work_length s 3 limit) (routed_by (dimension s) 3 limit x y) l l' r
  unfolding routed_by
  route-both R = R
