-- A content that passes the reader's tests is solved: none of 1 to 8 refuses, and the answer is printed. Assumes nothing.
use Rattle.network.specs.declared.Cause.TheVariants.{PointLists, Route}
use Rattle.std.proofs.Common.{Err, Ok, Result}
use Rattle.network.specs.declared.Refusal.{Refusal}
use Prim.Native.Nat.{ℕ, ◌-◌, ◌*◌, ◌≤◌}
use mathlib.Core.Path.{◌≡◌, refl, sym, ap, ap₂, ◌∙◌}
use mathlib.Core.Bool.{Bool, true, false, cond, not, ◌&&◌}
use mathlib.Core.List.{List, []}
use native.Mathlib.Omega.{arith}
use native.Mathlib.Nat.{mul-le-mul}
use lib.ListN.{length}
use lib.Dec.{ltb}
use lib.Ieee.{Float}
use borrow.Author.Tests.{ltb-false, le-leb, eq-eqb}
use Rattle.field.specs.Buffer.{load, vector}
use Rattle.field.proofs.Buffers.{vector-lawful, length-flat, load-flat}
use Rattle.network.specs.declared.Shape.{Shape}
use Rattle.network.specs.Network.{Content, content, graph, Network, network}
use Rattle.network.specs.Refusals.{verdict, count_tests, length_tests, lists_fit, network_fits, end_tests, list_tests, link_tests, network_row_tests, bad_route, route_tests, dense_rows}
use Rattle.network.proofs.Verdicts.{verdict-one, passed-test, both-passed}
use Rattle.system.specs.Work.{work_length}
use Rattle.recover.specs.Recover.{points_of}
use Rattle.graph.specs.Distinct.{distinct}
use Rattle.iterative.specs.Reduced.{problem}
use Rattle.iterative.specs.Accepted.{Accepted as Meaning}
use Rattle.placement.specs.declared.Report.{Report}
use Rattle.placement.specs.Routes.{submission, buffers_fit, submission_tests, submission_verdict, Placement, rejected, failing, placed, placement, report}
use Rattle.placement.specs.Solved.{answer_of, cameras_after, points_after, Solved as SolveCall}
use Rattle.lists.specs.inner.Sorted.{Rows}
use Rattle.lists.proofs.Sorting.{offsets-table, listed-placed}
use Rattle.lists.proofs.Holding.{sorted-holds}
use Rattle.command.specs.declared.Reported.{Reported}
use Rattle.text.specs.Text.{refused_text}
use Rattle.command.specs.Command.{placed_lines, lines, network_of, ending, CamerasMeant, ImageSolved, Prints}
use Rattle.command.specs.inner.Steps.{Small, ContentSound, Listed, BuffersSized, PartCount, text_of, AnsweredAs, Steps, printed}
use Rattle.command.proofs.Printing.{vectors-flat, prints-as}
use Rattle.command.proofs.Passing.{fits, ends-passed}

-- at most 48 rows are dense
dense-rows : (n : ℕ) → dense_rows n 3 48 ≤ 48
unfolding dense_rows bad_route
dense-rows n = go (ltb 48 (n - 1)) refl
  where
    go : (b : Bool) → ltb 48 (n - 1) ≡ b → cond b 0 (n - 1) ≤ 48
    go true e = omega arith
    go false e = ltb-false 48 (n - 1) e

work-enough : (s : Shape) → Small s → work_length s 3 48 ≤ 7044
unfolding work_length
work-enough s h =
    let d = dense-rows s.cameras in
    let q : dense_rows s.cameras 3 48 * dense_rows s.cameras 3 48 ≤ 48 * 48 = mul-le-mul d d in
    omega arith

-- the text of an answer, from what the outputs hold, is that of how the solve ended
answer-lines : (x : Placement) (net : Network) (k : ℕ) (cs ps : List Float) →
    text_of net.shape k (answer_of net x) (cameras_after x cs) (points_after net x ps) ≡ lines net k x
answer-lines (rejected r) net k cs ps = refl
answer-lines (failing r) net k cs ps = refl
answer-lines (placed route rounds cameras) net k cs ps = rw (vectors-flat cameras, vectors-flat (points_of net cameras))

-- the cameras that the output holds are those that are printed
cameras-meant : (x : Placement) (net : Network) (parts : ℕ) (cs cs' : List Float) → cs' ≡ cameras_after x cs → length cs' ≡ 3 * net.shape.cameras → (p : Report) →
    answer_of net x ≡ Ok p → (p.anchor ≡ (problem net).anchor) × Meaning (problem net) (load vector cs' 0 net.shape.cameras) p.rounds →
    CamerasMeant net parts p (lines net parts x)
cameras-meant (rejected r) net parts cs cs' f h p e m = absurd (let z : ◌≡◌ {A = ℕ} 0 1 = cc in omega arith)
cameras-meant (failing r) net parts cs cs' f h p e m = absurd (let z : ◌≡◌ {A = ℕ} 0 1 = cc in omega arith)
cameras-meant (placed route rounds cameras) net parts cs cs' f h p e m =
    let q : report net route rounds ≡ p = cc in
    let n : length cameras ≡ net.shape.cameras = omega (arith, ap length f, length-flat vector vector-lawful cameras) in
    let c : load vector cs' 0 net.shape.cameras ≡ cameras = rw f (load-flat vector vector-lawful cameras net.shape.cameras n) in
    record {
      cameras = cameras;
      printed = ap (λ (r : Report). placed_lines net.shape parts r cameras (points_of net cameras)) q;
      anchor = m.0;
      meaning = rw c at m.1;
    }

module _ (s : Shape) (es : List ℕ) (rs ws ss ps : List Float) (C : ContentSound (content s es rs ws ss ps)) where
  net : Network
  net = network_of (content s es rs ws ss ps)

  rows-held : Rows s.points s.bearings es
  rows-held = let E = ends-passed s es rs ws ss ps C in let size = E.size in record { held = omega arith; point = E.point }

  network-fit : network_fits net ≡ true
  unfolding net network_fits lists_fit
  network-fit = ap₂ ◌&&◌ C.fit (ap₂ ◌&&◌ (eq-eqb _ _ (offsets-table es s.bearings s.points).size) (eq-eqb _ _ (listed-placed rows-held).size))

  rows-passed : verdict (network_row_tests net []) ≡ Ok tt
  unfolding net network_row_tests link_tests list_tests
  rows-passed =
      both-passed (link_tests s es _ _) _
      (both-passed (end_tests s es) _ C.ends (verdict-one _ ∙ passed-test PointLists (ap not (sorted-holds s.points s.bearings es rows-held))))
      C.domain

  route-passed : verdict (route_tests 3 48) ≡ Ok tt
  unfolding route_tests bad_route
  route-passed = verdict-one _ ∙ passed-test Route refl

  module _ (ms : List ℕ) (a cs qs : List Float) (B : BuffersSized s ms a cs qs) where
    buffers-fit : buffers_fit s (length ms) 3 48 (length a) (length cs) (length qs) ≡ true
    unfolding buffers_fit
    buffers-fit =
        let h = work-enough s C.small in
        let w = B.work in
        ap₂ ◌&&◌ (eq-eqb _ _ B.marks)
        (ap₂ ◌&&◌ (eq-eqb _ _ B.cameras) (ap₂ ◌&&◌ (eq-eqb _ _ B.points) (le-leb (work_length s 3 48) (length a) (omega arith))))

    -- 1 to 8 refuse nothing
    submission-passed : submission_verdict (submission net (length ms) 3 48 (length a) (length cs) (length qs)) ≡ Ok tt
    unfolding submission_tests net
    submission-passed =
        both-passed (count_tests s) _ C.counts
        (both-passed (length_tests _) _ (fits (ap₂ ◌&&◌ network-fit buffers-fit))
        (both-passed (network_row_tests net []) _ rows-passed route-passed))

    solve-passed : placement (submission net (length ms) 3 48 (length a) (length cs) (length qs)) ≡ ending net
    unfolding placement net
    solve-passed = rw submission-passed

  pub solved : (offsets listed : List ℕ) (k : ℕ) (answer : Result Report Refusal) (ms ms' : List ℕ) (a a' cs cs' qs qs' : List Float) → Listed s es offsets listed →
      SolveCall (submission (network s es rs ws ss ps offsets listed) (length ms) 3 48 (length a) (length cs) (length qs)) answer ms ms' a a' cs cs' qs qs' →
      PartCount (graph s es ws) k → BuffersSized s ms a cs qs → length cs' ≡ length cs → ImageSolved (content s es rs ws ss ps) answer (text_of s k answer cs' qs')
  unfolding net
  solved offsets listed k answer ms ms' a a' cs cs' qs qs' L lent P B kept =
      let call = rw (L.starts, L.rows) at lent in
      let e = solve-passed ms a cs qs B in
      let answers : answer ≡ answer_of net (ending net) = call.answer ∙ ap (answer_of net) e in
      let f : cs' ≡ cameras_after (ending net) cs = call.cameras_out ∙ ap (λ t. cameras_after t cs) e in
      let g : qs' ≡ points_after net (ending net) qs = call.points_out ∙ ap (λ t. points_after net t qs) e in
      let text : text_of s k answer cs' qs' ≡ lines net (distinct P.labels) (ending net) =
      rw (answers, f, g) (answer-lines (ending net) net k cs qs) ∙ ap (λ t. lines net t (ending net)) P.counted in
      record {
        labels = P.labels;
        labelled = P.labelled;
        answered = answers;
        printed = text;
        meaning = λ p q w. rw text (cameras-meant (ending net) net (distinct P.labels) cs cs' f (kept ∙ B.cameras) p (sym answers ∙ q) (call.meaning p q w));
      }

-- what was solved is printed, or refused
module _ (c : Content) (k : ℕ) (x : Result Report Refusal) (cs qs : List Float) (h : ImageSolved c x (text_of c.shape k x cs qs)) where
  pub solved-printed : {p : Reported} {out out' : List ℕ} (s : Shape) (r : Report) → s ≡ c.shape → x ≡ Ok r → Prints (AnsweredAs s k (Ok r) cs qs) (printed p) out out' →
      Steps (ImageSolved c) (Ok p) out out'
  unfolding Steps
  solved-printed s r e f = let g = rw f at h in prints-as (λ b u q. rw (q.answered, q.printed, e) g)

  pub solve-refused : (r : Refusal) → x ≡ Err r → ImageSolved c (Err r) (refused_text r)
  solve-refused r f = rw f at h
