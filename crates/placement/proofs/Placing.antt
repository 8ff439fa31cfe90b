-- How checks, routes and outputs make the solve, and what its accepted answers mean. Assumes nothing.
use Rattle.std.proofs.Common.{Result}
use Rattle.network.specs.declared.Cause.TheVariants.{Dimension}
use Rattle.std.proofs.Common.{Err, Ok}
use Prim.Native.Nat.{ℕ, zero, suc, ◌-◌, ◌*◌, ◌≤◌}
use mathlib.Core.Path.{◌≡◌, refl, sym, ap, subst, ◌∙◌}
use mathlib.Core.List.{List, [], ◌++◌}
use mathlib.Core.Bool.{Bool, true, false, ◌&&◌, true≢false}
use native.Mathlib.Omega.{arith}
use lib.Dec.{eqb, leb}
use lib.ListN.{length, drop, replicate}
use lib.Ieee.{Float}
use borrow.Author.Tests.{eqb-true, leb-true}
use Rattle.double.proofs.Truth.{both_true}
use Rattle.field.specs.declared.Vec3.{Vec3}
use Rattle.field.specs.Vec.{null}
use Rattle.field.specs.Buffer.{load, store, flat, vector}
use Rattle.field.proofs.Buffers.{length-load, store-whole, load-flat, vector-lawful}
use Rattle.network.specs.declared.Refusal.{Refusal}
use Rattle.network.specs.Refusals.{Verdict}
use Rattle.network.specs.Network.{Network, links_of}
use Rattle.network.specs.inner.Sound.{LinksSound, NetworkLengths, NetworkSound}
use Rattle.network.specs.Refusals.{verdict, count_tests, length_tests, network_fits, network_row_tests, network_tests, route_tests, bad_route, marks_after}
use Rattle.network.proofs.Verdicts.{both-passed, passes-in, stage-passed}
use Rattle.network.proofs.Sound.{fit-lengths, lengths-fit, network-fits, route-sound, tests-sound}
use Rattle.system.specs.System.{anchor, row_sums, rows_of, terms, weights_of}
use Rattle.system.specs.Counts.{few}
use Rattle.system.specs.Work.{matrix_at, term, term_place, work_length}
use Rattle.system.specs.declared.CameraTerm.{CameraTerm}
use Rattle.system.proofs.Counts.{few-counted}
use Rattle.system.specs.inner.Formed.{Formed, Segments, few_in, positions_in, weights_in}
use Rattle.recover.specs.Recover.{points_by}
use Rattle.recover.proofs.Points.{points-recovered}
use Rattle.iterative.specs.Method.{Ending, accepted, refused, solution}
use Rattle.iterative.specs.Reduced.{problem, problem_by}
use Rattle.iterative.specs.Accepted.{Accepted as Meaning}
use Rattle.iterative.proofs.Acceptance.{accepted-network}
use Rattle.iterative.proofs.Solving.{problem-held}
use Rattle.cholesky.specs.declared.Breakdown.{Breakdown}
use Rattle.dense.specs.Dense.{dense_solution, dimension}
use Rattle.dense.proofs.Solving.{dense-held}
use Rattle.placement.specs.declared.Report.{Report}
use Rattle.placement.specs.declared.routes.Finish.{Finish}
use Rattle.placement.specs.Routes.{Submission, Placement, rejected, failing, placed, failing_at, submission, dense_or, by_iterative, fall_back, routed_by, routed, buffers_fit}
use Rattle.placement.specs.Routes.{lent_fits, submission_tests, submission_verdict, early_verdict, checked, placement}
use Rattle.placement.specs.Solved.{answer_of, cameras_after, points_after, work_after, Solved}
use Rattle.placement.specs.inner.Routing.{Checked, OutputsFilled, Ran, RouteReady, Routed, dense_in, ended_with, iterative_in, outcome, reported, route_number}
use Rattle.placement.proofs.Routing.{no-fourth, route-cases, surplus-more, work-room}

-- ---- the checks

module _ (net : Network) where
  module _ (marks route limit work cameras out : ℕ) (v : Verdict) (f : v ≡ verdict (length_tests (network_fits net && buffers_fit net.shape marks route limit work cameras out))) (q : v ≡ Ok tt) where
    pub lengths-measured : NetworkLengths net × (marks ≡ net.shape.bearings)
    unfolding buffers_fit
    lengths-measured =
        let g = both_true (network_fits net) _ (lengths-fit _ (sym f ∙ q)) in
        (network-fits net g.0, eqb-true _ _ (both_true (eqb marks net.shape.bearings) _ g.1).0)

    pub submission-checked : (x y : Verdict) → x ≡ verdict (count_tests net.shape) → x ≡ Ok tt → y ≡ verdict (network_row_tests net [] ++ route_tests route limit) →
        y ≡ submission_verdict (submission net marks route limit work cameras out)
    unfolding submission_tests
    submission-checked x y e p h = passes-in (count_tests net.shape) _ e p (passes-in (length_tests _) _ f q h)

-- 1 to 7 of the network are among a solve's tests
pub network-passes : (i : Submission) → submission_verdict i ≡ Ok tt → verdict (network_tests i.net) ≡ Ok tt
unfolding submission_tests network_tests
network-passes i e =
    let s = i.net.shape in
    let a = stage-passed (count_tests s) _ e in
    let b = stage-passed (length_tests (lent_fits i)) _ a.1 in
    let f = (both_true (network_fits i.net) _ (lengths-fit _ b.0)).0 in
    both-passed (count_tests s) _ a.0 (both-passed (length_tests (network_fits i.net)) _ (fit-lengths f) (stage-passed (network_row_tests i.net []) _ b.1).0)

-- what 'nothing was refused' says
pub record SubmissionSound (i : Submission) : Type 0 where
  pub checked : Checked i.net i.route i.limit i.work
  pub cameras : i.cameras ≡ 3 * i.net.shape.cameras
  pub points : i.points ≡ 3 * i.net.shape.points

pub submission-sound : (i : Submission) (v : Verdict) → v ≡ submission_verdict i → v ≡ Ok tt → SubmissionSound i
unfolding submission_tests buffers_fit
submission-sound i v h p =
    let net = i.net in
    let s = net.shape in
    let a = stage-passed (count_tests s) _ (sym h ∙ p) in
    let b = stage-passed (length_tests (lent_fits i)) _ a.1 in
    let c = stage-passed (network_row_tests net []) _ b.1 in
    let f = both_true (network_fits net) _ (lengths-fit _ b.0) in
    let g = both_true _ _ (both_true (eqb i.marks s.bearings) _ f.1).1 in
    let k = both_true _ _ g.1 in
    record {
      checked = record {
        sound = tests-sound net (network-passes i (sym h ∙ p));
        legal = route-sound i.route i.limit c.1;
        room = leb-true _ _ k.1;
      };
      cameras = eqb-true _ _ g.0;
      points = eqb-true _ _ k.0;
    }

pub legal-route : (route limit : ℕ) → bad_route route limit ≡ false → (1 ≤ route) × (route ≤ 3)
unfolding bad_route
legal-route zero limit e = absurd (true≢false e)
legal-route (suc zero) limit e = (omega arith, omega arith)
legal-route (suc (suc zero)) limit e = (omega arith, omega arith)
legal-route (suc (suc (suc zero))) limit e = (omega arith, omega arith)
legal-route (suc (suc (suc (suc k)))) limit e = absurd (true≢false (sym (no-fourth k limit) ∙ e))

-- ---- the answer of a route

told : (a k : ℕ) (o : Result Finish Refusal) (cs : List Vec3) → outcome (reported a k o) cs ≡ ended_with o cs
told a k (Err r) cs = refl
told a k (Ok f) cs = refl

answer-told : (net : Network) (o : Result Finish Refusal) (cs : List Vec3) → reported (anchor net) (few net) o ≡ answer_of net (ended_with o cs)
answer-told net (Err r) cs = refl
answer-told net (Ok f) cs = refl

pub answered-failed : {o : Result Finish Refusal} {q : Refusal} (a k : ℕ) → o ≡ Err q → Err q ≡ reported a k o
answered-failed a k e = rw e

pub answered-placed : {o : Result Finish Refusal} {t : Finish} (a n f k : ℕ) → o ≡ Ok t → n ≡ route_number t.route → f ≡ k →
    Ok (record { anchor = a; route = n; rounds = t.rounds; few = f }) ≡ reported a k o
answered-placed a n f k e g h = rw (e, g, h)

-- ---- the system is formed and the route taken

module _ (net : Network) (route limit size : ℕ)
    (C : Checked net route limit size) where
  pub checked-points : length net.positions ≡ 3 * net.shape.points
  checked-points = C.sound.lengths.content.domain.positions

  pub checked-room : matrix_at net.shape ≤ size
  checked-room = let w = work-room net.shape route limit in omega (arith, w, C.room)

module _ (net : Network) (route limit a : ℕ) (l l1 : List Float)
    (F : Formed net.shape net.ends (row_sums (rows_of net)) l l1 a) where
  pub formed-ready : Checked net route limit (length l) → RouteReady net.shape a route limit (length l1)
  formed-ready C = record { anchor = F.below; legal = C.legal; room = rw F.size C.room }

  pub formed-room : Checked net route limit (length l) → (x : Placement) (l2 : List Float) (e : Result Finish Refusal) →
      Routed net.shape (work_length net.shape route limit) x l1 l2 e → matrix_at net.shape ≤ length l2
  formed-room C x l2 e R = rw (R.size ∙ F.size) (checked-room net route limit (length l) C)

  pub run-done : (l2 : List Float) (e : Result Finish Refusal) (r : Result Report Refusal) → Checked net route limit (length l) →
      Routed net.shape (work_length net.shape route limit) (routed_by (dimension net.shape) route limit (iterative_in (links_of net) a l1) (dense_in (links_of net) a l1)) l1 l2 e →
      r ≡ reported a (few_in (load term l2 0 net.shape.cameras) net.shape.cameras) e →
      Ran net route limit l l2 r
  unfolding routed
  run-done l2 o r C R h =
      let K : LinksSound (links_of net) = C.sound.links in
      let S : Segments net.shape (weights_of net) (terms net) l1 = F.segments in
      let e : a ≡ anchor net = F.anchor in
      let x : iterative_in (links_of net) a l1 ≡ solution (problem net) = ap solution (problem-held net l1 a K S e) in
      let y : dense_in (links_of net) a l1 ≡ dense_solution net = dense-held net l1 a K S e in
      let S2 : Segments net.shape (weights_of net) (terms net) l2 = R.segments (weights_of net) (terms net) S in
      let f : few_in (load term l2 0 net.shape.cameras) net.shape.cameras ≡ few net = ap (λ (ts : List CameraTerm). few_in ts net.shape.cameras) S2.terms ∙ few-counted net C.sound in
      let z : ended_with o (positions_in net.shape l2) ≡ routed net route limit = R.answer ∙ rw (x, y) in
      record {
        ended = ap (λ (q : Result Report Refusal). outcome q (positions_in net.shape l2)) h ∙ told a _ o (positions_in net.shape l2) ∙ z;
        answer = h ∙ rw (e, f) (answer-told net o (positions_in net.shape l2)) ∙ ap (answer_of net) z;
        segments = S2;
        surplus = R.surplus ∙ surplus-more _ _ l l1 F.surplus (work-room net.shape route limit);
        size = R.size ∙ F.size;
      }

-- ---- the outputs

pub cameras-filled : (n : ℕ) (l out out' : List Float) (p : ℕ) → p ≡ term_place n → length out ≡ 3 * n → out' ≡ store vector out 0 (load vector l p n) →
    out' ≡ flat vector (load vector l (term_place n) n)
cameras-filled n l out out' p ep h e = e ∙ store-whole vector vector-lawful out (load vector l p n) (rw (length-load vector l p n) h) ∙ rw ep

module _ (net : Network) (route limit : ℕ) (l l1 cameras placed0 : List Float) (r : Result Report Refusal)
    (C : Checked net route limit (length l))
    (R : Ran net route limit l l1 r) where
  pub ran-room : matrix_at net.shape ≤ length l1
  ran-room = rw R.size (checked-room net route limit (length l) C)

  pub placed-accepted : (p : Report) (cameras' placed' : List Float) → r ≡ Ok p → cameras' ≡ flat vector (positions_in net.shape l1) →
      placed' ≡ flat vector (points_by net (weights_in net.shape l1) (positions_in net.shape l1)) →
      OutputsFilled net route limit (Ok p) l l1 cameras cameras' placed0 placed'
  placed-accepted p cameras' placed' e c q =
      let x : placed p.route p.rounds (positions_in net.shape l1) ≡ routed net route limit = ap (λ (y : Result Report Refusal). outcome y (positions_in net.shape l1)) (sym e) ∙ R.ended in
      let z = points-recovered net.shape net.ends net.rays net.weights net.scales net.positions net.offsets net.listed (terms net) l1 (positions_in net.shape l1) placed' C.sound.links R.segments q in
      record {
        answer = sym e ∙ R.answer;
        cameras_out = c ∙ ap (λ (y : Placement). cameras_after y cameras) x;
        points_out = z ∙ ap (λ (y : Placement). points_after net y placed0) x;
        surplus = R.surplus;
        size = R.size;
      }

  pub placed-refused : (q : Refusal) → r ≡ Err q → OutputsFilled net route limit (Err q) l l1 cameras cameras placed0 placed0
  placed-refused q e =
      let x : failing q ≡ routed net route limit = ap (λ (y : Result Report Refusal). outcome y (positions_in net.shape l1)) (sym e) ∙ R.ended in
      record {
        answer = sym e ∙ R.answer;
        cameras_out = ap (λ (y : Placement). cameras_after y cameras) x;
        points_out = ap (λ (y : Placement). points_after net y placed0) x;
        surplus = R.surplus;
        size = R.size;
      }

-- ---- a route that was taken leaves a work buffer of zeros

abbrev Zeroed : Placement → Type 0
Zeroed x = (t : ℕ) (l : List Float) → work_after t x l ≡ replicate t null ++ drop t l

zeroed-dense : (r : ℕ) (y : Result (List Vec3) Breakdown) (b : Bool) (q : Refusal) → Zeroed (dense_or b r y (failing q))
zeroed-dense r (Ok c) true q t l = refl
zeroed-dense r (Err b) true q t l = refl
zeroed-dense r y false q t l = refl

zeroed-iterative : (x : Ending) (f : Refusal → Placement) → ((q : Refusal) → Zeroed (f q)) → Zeroed (by_iterative x f)
zeroed-iterative (accepted s) f h = λ t l. refl
zeroed-iterative (refused r) f h = h r

zeroed-routed : (net : Network) (route limit : ℕ) → bad_route route limit ≡ false → Zeroed (routed net route limit)
unfolding routed
zeroed-routed net route limit e =
    let d = net.shape.cameras - 1 in
    let x = solution (problem net) in
    let y = dense_solution net in
    route-cases d limit x y Zeroed route e (zeroed-dense 1 y (leb d limit) _)
    (zeroed-iterative x failing (λ q t l. refl))
    (zeroed-iterative x (fall_back d limit y) (λ q. zeroed-dense 3 y (leb d limit) q))

-- ---- demand 3

-- not an answer of the iterative part
abbrev Other : Placement → Type 0
Other (rejected r) = Unit {0}
Other (failing r) = Unit {0}
Other (placed route rounds cameras) = route ≡ 2 → ⊥

other-dense : (r : ℕ) (y : Result (List Vec3) Breakdown) (b : Bool) (q : Refusal) → (r ≡ 2 → ⊥) → Other (dense_or b r y (failing q))
other-dense r (Ok c) true q h = h
other-dense r (Err u) true q h = tt
other-dense r y false q h = tt

abbrev report_in : Result Report Refusal → Report → Report
report_in (Err r) p = p
report_in (Ok q) p = q

refused-not : (r : Refusal) (p : Report) → Err r ≡ Ok p → ⊥
refused-not r p e = let z : ◌≡◌ {A = ℕ} 0 1 = cc in omega arith

module _ (net : Network) (N : NetworkSound net) where
  abbrev d : ℕ
  d = net.shape.cameras - 1

  abbrev Meant : Placement → Type 0
  Meant x = (old : List Float) (p : Report) → answer_of net x ≡ Ok p → p.route ≡ 2 →
      (p.anchor ≡ anchor net) × Meaning (problem net) (load vector (cameras_after x old) 0 net.shape.cameras) p.rounds

  meant-other : (x : Placement) → Other x → Meant x
  meant-other (rejected r) h old p e f = absurd (refused-not r p e)
  meant-other (failing r) h old p e f = absurd (refused-not r p e)
  meant-other (placed route rounds cameras) h old p e f = absurd (h (ap (λ (q : Result Report Refusal). (report_in q p).route) e ∙ f))

  meant-iterative : (x : Ending) → solution (problem net) ≡ x → (f : Refusal → Placement) → ((q : Refusal) → Other (f q)) → Meant (by_iterative x f)
  unfolding problem_by
  meant-iterative (accepted s) q f h old p e g =
      let M = accepted-network net N s q in
      let c : s.round.count ≡ p.rounds = ap (λ (z : Result Report Refusal). (report_in z p).rounds) e in
      let b : load vector (flat vector s.positions) 0 net.shape.cameras ≡ s.positions = load-flat vector vector-lawful s.positions net.shape.cameras M.fits.placed in
      (sym (ap (λ (z : Result Report Refusal). (report_in z p).anchor) e), rw b (subst (λ (j : ℕ). Meaning (problem net) s.positions j) c M))
  meant-iterative (refused r) q f h old p e g = meant-other (f r) (h r) old p e g

  meant-routed : (route limit : ℕ) → bad_route route limit ≡ false → Meant (routed net route limit)
  unfolding routed
  meant-routed route limit e =
      let x = solution (problem net) in
      let y = dense_solution net in
      route-cases d limit x y Meant route e
      (meant-other (dense_or (leb d limit) 1 y (failing_at Dimension d)) (other-dense 1 y (leb d limit) _ (λ z. omega arith)))
      (meant-iterative x refl failing (λ q. tt))
      (meant-iterative x refl (fall_back d limit y) (λ q. other-dense 3 y (leb d limit) q (λ z. omega arith)))

-- ---- the solve

pub clear_room : (net : Network) (route limit t : ℕ) (r : Result Report Refusal) (work mid cameras cameras' points points' : List Float) → Checked net route limit (length work) →
    OutputsFilled net route limit r work mid cameras cameras' points points' → t ≡ work_length net.shape route limit → t ≤ length mid
clear_room net route limit t r work mid cameras cameras' points points' C P e = rw (e, P.size) C.room

module _ (i : Submission) (v : Verdict) (marks marks' : List ℕ) (work cameras points : List Float) (e : v ≡ submission_verdict i)
    (m : marks' ≡ marks_after (early_verdict i) i.net.shape.bearings marks) where
  abbrev T : ℕ
  T = work_length i.net.shape i.route i.limit

  pub solve-rejected : (r : Refusal) → v ≡ Err r → Solved i (Err r) marks marks' work work cameras cameras points points
  unfolding placement
  solve-rejected r h =
      let q : rejected r ≡ placement i = ap (λ (u : Verdict). checked u (routed i.net i.route i.limit)) (sym h ∙ e) in
      record {
        answer = ap (answer_of i.net) q;
        cameras_out = ap (λ (y : Placement). cameras_after y cameras) q;
        points_out = ap (λ (y : Placement). points_after i.net y points) q;
        work_out = ap (λ (y : Placement). work_after T y work) q;
        marks_out = m;
        meaning = λ p f g. absurd (refused-not r p f);
      }

  pub solve-placed : (r : Result Report Refusal) (t : ℕ) (mid work' cameras' points' : List Float) → v ≡ Ok tt → OutputsFilled i.net i.route i.limit r work mid cameras cameras' points points' →
      t ≡ work_length i.net.shape i.route i.limit → work' ≡ replicate t null ++ drop t mid → Solved i r marks marks' work work' cameras cameras' points points'
  unfolding placement problem_by
  solve-placed r t mid work' cameras' points' h P w z =
      let y = routed i.net i.route i.limit in
      let C = (submission-sound i v e h).checked in
      let q : y ≡ placement i = ap (λ (u : Verdict). checked u y) (sym h ∙ e) in
      let n : work' ≡ replicate T null ++ drop T mid = rw w at z in
      let s : replicate T null ++ drop T mid ≡ replicate T null ++ drop T work = ap (λ (u : List Float). replicate T null ++ u) P.surplus in
      record {
        answer = P.answer ∙ ap (answer_of i.net) q;
        cameras_out = P.cameras_out ∙ ap (λ (u : Placement). cameras_after u cameras) q;
        points_out = P.points_out ∙ ap (λ (u : Placement). points_after i.net u points) q;
        work_out = n ∙ s ∙ sym (zeroed-routed i.net i.route i.limit C.legal T work) ∙ ap (λ (u : Placement). work_after T u work) q;
        marks_out = m;
        meaning = λ p f g. rw P.cameras_out (meant-routed i.net C.sound i.route i.limit C.legal cameras p (sym P.answer ∙ f) g);
      }
