-- The start, the end, and the whole solve, from what the calls ensure. Assumes nothing.
use Rattle.std.proofs.Common.{Err, Ok, Result}
use Rattle.network.specs.declared.CameraSum.TheVariants.{Residual}
use Rattle.network.specs.declared.Cause.TheVariants.{Diagonal}
use Rattle.network.specs.Refusals.{Verdict, test_at}
use Rattle.network.specs.declared.Refusal.{Refusal}
use Rattle.network.proofs.Verdicts.{passed-test-at}
use Rattle.iterative.proofs.Refused.{unless-passed, unless-refused}
use Rattle.std.proofs.Common.{None, Option}
use mathlib.Core.Path.{ap, refl, subst, sym, ◌∙◌, ◌≡◌}
use mathlib.Core.Logic.{◌⊎◌, inl, inr}
use mathlib.Core.Bool.{Bool}
use mathlib.Core.List.{List}
use Prim.Native.Nat.{ℕ, ◌≤◌}
use native.Mathlib.Omega.{arith}
use lib.ListN.{length}
use lib.Ieee.{Float}
use Rattle.field.proofs.Counting.{length-field}
use Rattle.field.specs.Buffer.{load, store, vector}
use Rattle.field.specs.Count.{field, lowest}
use Rattle.field.specs.declared.Vec3.{Vec3}
use Rattle.network.specs.Network.{Links, Network, links_of}
use Rattle.network.specs.inner.Sound.{LinksSound}
use Rattle.network.specs.declared.Shape.{Shape}
use Rattle.system.specs.System.{anchor, terms, weights_of, diagonal_of}
use Rattle.system.specs.Work.{applied_at, matrix_at, positions_at, right_at, term}
use Rattle.system.specs.inner.Formed.{Segments, positions_in, weights_in}
use Rattle.operator.proofs.Buffered.{reduced-held, weights-kept}
use Rattle.operator.proofs.OperatorLaws.{by_length}
use Rattle.operator.specs.Operator.{reduced_by}
use Rattle.operator.specs.inner.Applied.{reduced_in}
use Rattle.iterative.proofs.Kept.{kept_store, kept_then, other-field, outside-same, outside-then, own-field, problem-in-kept}
use Rattle.iterative.proofs.Opening.{opened-fields, opened-outside}
use Rattle.iterative.proofs.Running.{rounds-over}
use Rattle.iterative.specs.Method.{Run, State, accepted, allowed_of, bad_diagonal, bad_residual, bound_of, closed, component, difference, ended, failed, sum_test, unless}
use Rattle.iterative.specs.Method.{opened, refused, residual_of, rounds, solution, square_sum, start, starts_active}
use Rattle.iterative.specs.Opening.{Each, Opened, segments_of}
use Rattle.iterative.specs.Problem.{Problem, most_rounds}
use Rattle.iterative.specs.Reduced.{problem, problem_by, right_of}
use Rattle.iterative.specs.declared.Active.{Active}
use Rattle.iterative.specs.declared.Frame.{Frame}
use Rattle.iterative.specs.declared.dot.Dot.{Dot}
use Rattle.iterative.specs.declared.Round.{Round}
use Rattle.std.specs.declared.ops.ControlFlow.TheVariants.{Break, Continue}
use Rattle.iterative.specs.inner.Solver.{Step}
use Rattle.iterative.specs.inner.Solver.{Concluded, Iterated, IterativeSolved, Outside, Settled, Started, Tested, answer_of, begun}
use Rattle.iterative.specs.inner.Solver.{dot_camera_in, dot_in, frame_of, problem_in, reduced_system, right_sums, rounds_from, run_in, state_in}

-- ---- the start

pub started : (f : Frame) (l l' : List Float) (v w bound : Vec3) (active : Active) → Opened f.shape f.anchor f.shape.cameras l l' v w → bound ≡ bound_of v →
    active ≡ starts_active bound v → Started f l l' v (record { old = w; active = active; count = 0 })
started f l l' v w bound active O e h = record { opened = O; active = rw e at h; count = refl }

-- what the rounds read of it
module _ (f : Frame) (l l1 : List Float) (v : Vec3) (r : Round) (room : matrix_at f.shape ≤ length l) (S : Started f l l1 v r) where
  started-outside : Outside f.shape l l1
  started-outside = opened-outside f.shape f.anchor l l1 v r.old S.opened

  started-fields : Each (λ g. load vector l1 g.place f.shape.cameras ≡ field f.shape.cameras g.entry) (segments_of f.shape f.anchor (load term l 0 f.shape.cameras))
  started-fields = opened-fields f.shape f.anchor l l1 v r.old S.opened (omega arith)

  pub started-room : matrix_at f.shape ≤ length l1
  started-room = rw started-outside.size room

  pub started-sums : v ≡ right_sums f l1
  started-sums = S.opened.sums ∙ rw started-fields.1.0

-- ---- the end

-- z and b are the shape and the anchor as they were read
pub settled : (L : Links) (z : Shape) (a b p q r : ℕ) (l l1 l2 : List Float) → z ≡ L.shape → b ≡ a → matrix_at L.shape ≤ length l →
    p ≡ positions_at z → q ≡ applied_at z → r ≡ right_at z →
    l1 ≡ reduced_in L a p q l →
    l2 ≡ store vector l1 q (difference z.cameras (load vector l1 q z.cameras) (load vector l1 r z.cameras)) →
    Settled L.shape (problem_in L a l) l l2 (record { cameras = z.cameras; anchor = b; first = q; second = q })
unfolding residual_of
settled L z a b p q r l l1 l2 ez eb room ep eq er f1 f2 =
    let s = L.shape in
    let n = s.cameras in
    let w = reduced_by L (weights_in s l) a (load vector l (positions_at s) n) in
    let e1 : l1 ≡ store vector l (applied_at s) w = rw (ep, eq, ez) at f1 in
    let e2 : l2 ≡ store vector l1 (applied_at s) (difference n (load vector l1 (applied_at s) n) (load vector l1 (right_at s) n)) = rw (eq, er, ez) at f2 in
    let s1 : length w ≡ n = by_length L _ a _ in
    let s2 : length (difference n (load vector l1 (applied_at s) n) (load vector l1 (right_at s) n)) ≡ n = length-field n _ in
    let to = kept_store s l _ _ l1 e1 s1 (omega arith) (omega arith) (inr (omega arith)) in
    let f : load vector l1 (applied_at s) n ≡ w = own-field n l _ w l1 e1 s1 (omega arith) in
    let g : load vector l2 (applied_at s) n ≡ difference n (load vector l1 (applied_at s) n) (load vector l1 (right_at s) n) = own-field n l1 _ _ l2 e2 s2 (omega (arith, to.outside.size)) in
    let k = kept_store s l1 _ _ l2 e2 s2 (omega arith) (omega arith) (inr (omega arith)) in
    record {
      fits = rw (eq, ez) (omega (arith, k.outside.size, to.outside.size), omega (arith, k.outside.size, to.outside.size));
      sum = rw (eq, ez, eb, g, f, to.right) refl;
      camera = rw (eq, ez, eb, g, f, to.right) refl;
      kept = record {
        kept = kept_then to k;
        positions = other-field n l1 _ _ l2 (positions_at s) e2 s2 (inr (omega arith)) ∙ other-field n l _ _ l1 (positions_at s) e1 s1 (inr (omega arith));
      };
    }

-- the final test: the square sums are the method's
pub tested-done : (L : Links) (a : ℕ) (l l' : List Float) (sums bound v : Vec3) (d : Dot) (p : Option ℕ) (r : Verdict) → let s = L.shape in let P = problem_in L a l in
    sums ≡ right_sums (frame_of (reduced_system L a)) l → Settled s P l l' d → bound ≡ allowed_of sums → v ≡ dot_in d l' → p ≡ component (bad_residual bound v) →
    r ≡ sum_test Residual p (dot_camera_in d l') → Tested s P l l' r
unfolding square_sum
tested-done L a l l' sums bound v d p r e S f k g t = record { value = rw (g, f, e, k, S.sum, S.camera) at t; kept = S.kept }

module _ (s : Shape) (P : Problem) (l l' : List Float) (v : Verdict) (r : Round) (T : Tested s P l l' v) where
  pub judged-failed : {q : Refusal} → v ≡ Err q → Concluded s P (ended (state_in s l r)) l l' (Err q)
  judged-failed h = record { answer = sym (ap answer_of (unless-refused refused (accepted (state_in s l r)) T.value h)); kept = T.kept }

  pub judged-placed : v ≡ Ok tt → Concluded s P (ended (state_in s l r)) l l' (Ok r.count)
  judged-placed h = record { answer = sym (ap answer_of (unless-passed refused (accepted (state_in s l r)) T.value h)); kept = T.kept }

-- the ways in which the rounds leave a run
module _ (s : Shape) (P : Problem) (l : List Float) (x : Step) where
  pub concluded : (r : Round) (l' : List Float) (o : Result ℕ Refusal) → (x ≡ Continue r) ⊎ (x ≡ Break r) → Concluded s P (ended (state_in s l r)) l l' o → Concluded s P (run_in s l (Ok x)) l l' o
  concluded r l' o (inl e) C = rw e (record { answer = C.answer; kept = C.kept })
  concluded r l' o (inr e) C = rw e C

-- ---- the whole solve

accepted-positions : (v : Verdict) (t s : State) → unless refused v (accepted t) ≡ accepted s → t.positions ≡ s.positions
accepted-positions (Err q) t s e = let z : ◌≡◌ {A = ℕ} 0 1 = cc in absurd (omega arith)
accepted-positions (Ok u) t s e = let q : t ≡ s = cc in ap (λ (v : State). v.positions) q

closed-positions : (P : Problem) (s : Shape) (l : List Float) (x : Result Step Refusal) (t : State) → closed P (run_in s l x) ≡ accepted t → positions_in s l ≡ t.positions
closed-positions P s l (Err r) t e = let z : ◌≡◌ {A = ℕ} 0 1 = cc in absurd (omega arith)
closed-positions P s l (Ok (Continue r)) t e = accepted-positions _ (state_in s l r) t e
closed-positions P s l (Ok (Break r)) t e = accepted-positions _ (state_in s l r) t e

module _ (L : Links) (a : ℕ) (l : List Float) where
  abbrev s : Shape
  s = L.shape

  abbrev n : ℕ
  n = s.cameras

  abbrev frame : Frame
  frame = frame_of (reduced_system L a)

  abbrev own : Problem
  own = problem_by L (weights_in s l) (load term l 0 n) a

  -- what the search for a bad diagonal says is the method's
  found-is : (v : Verdict) → v ≡ test_at Diagonal (lowest (bad_diagonal a (diagonal_of (load term l 0 n))) n) → solution own ≡ closed own (rounds_from own (most_rounds n) (opened own v))
  unfolding solution rounds rounds_from problem_by
  found-is v e = rw e

  pub solved-bad : (p : Option ℕ) {v : Verdict} {z : Refusal} → p ≡ lowest (bad_diagonal a (diagonal_of (load term l 0 n))) n → v ≡ test_at Diagonal p → v ≡ Err z →
      IterativeSolved s own l l (Err z)
  solved-bad p {z = z} e t h =
      let q : solution own ≡ refused z = found-is (Err z) (sym h ∙ t ∙ ap (test_at Diagonal) e) ∙ ap (closed own) (rounds-over own (most_rounds n) (failed z) refl) in
      record {
        answer = sym (ap answer_of q);
        positions = λ t u. let z : ◌≡◌ {A = ℕ} 0 1 = cc (q, u) in absurd (omega arith);
        outside = outside-same s l;
      }

  -- once the start is made: the system in the buffer, and the state
  module _ (l1 : List Float) (sums : Vec3) (first : Round) (room : matrix_at s ≤ length l) (S : Started frame l l1 sums first) where
    started-problem : problem_in L a l1 ≡ own
    unfolding problem_by
    started-problem =
        let O = started-outside frame l l1 sums first room S in
        λ i. record {
          cameras = n;
          anchor = a;
          diagonal = diagonal_of (O.terms i);
          right = (started-fields frame l l1 sums first room S).1.0 i;
          operator = reduced_by L (weights-kept s l l1 O.rest i) a;
        }

    started-state : state_in s l1 first ≡ start own
    unfolding problem_by start square_sum
    started-state =
        let F = started-fields frame l l1 sums first room S in
        let e : first.active ≡ starts_active (bound_of (square_sum own)) (square_sum own) = S.active ∙ rw S.opened.sums in
        λ i. record {
          positions = F.0 i;
          residual = F.1.1.0 i;
          search = F.1.1.1.1.0 i;
          round = record { old = S.opened.old i; active = e i; count = S.count i };
        }

    -- the rounds made: the method's answer, by how they ended
    module _ (l2 : List Float) (y : Result Step Refusal) (bad : lowest (bad_diagonal a (diagonal_of (load term l 0 n))) n ≡ None)
        (I0 : Iterated s (problem_in L a l1) (begun (state_in s l1 first)) l1 l2 y) where
      own-rounds : Iterated s own (begun (state_in s l1 first)) l1 l2 y
      own-rounds = subst (λ (Q : Problem). Iterated s Q (begun (state_in s l1 first)) l1 l2 y) started-problem I0

      solution-is : solution own ≡ closed own (run_in s l2 y)
      solution-is = found-is (Ok tt) (sym (passed-test-at Diagonal bad)) ∙ sym (ap (closed own) (own-rounds.run ∙ ap (rounds_from own (most_rounds n)) (ap begun started-state)))

      rounds-outside : Outside s l l2
      rounds-outside = outside-then (started-outside frame l l1 sums first room S) own-rounds.kept.outside

      pub solved-failed : {q : Refusal} → y ≡ Err q → IterativeSolved s own l l2 (Err q)
      solved-failed {q} h =
          let e : solution own ≡ refused q = solution-is ∙ rw h in
          record {
            answer = sym (ap answer_of e);
            positions = λ t u. let z : ◌≡◌ {A = ℕ} 0 1 = cc (e, u) in absurd (omega arith);
            outside = rounds-outside;
          }

      pub solved-run : (l3 : List Float) (x : Step) (o : Result ℕ Refusal) → y ≡ Ok x → Concluded s (problem_in L a l2) (run_in s l2 (Ok x)) l2 l3 o → IterativeSolved s own l l3 o
      solved-run l3 x o h C0 =
          let p : problem_in L a l2 ≡ own = problem-in-kept L a l1 l2 own-rounds.kept ∙ started-problem in
          let C : Concluded s own (run_in s l2 (Ok x)) l2 l3 o = subst (λ (Q : Problem). Concluded s Q (run_in s l2 (Ok x)) l2 l3 o) p C0 in
          let q : solution own ≡ closed own (run_in s l2 (Ok x)) = solution-is ∙ rw h in
          record {
            answer = C.answer ∙ sym (ap answer_of q);
            positions = λ t u. C.kept.positions ∙ closed-positions own s l2 (Ok x) t (sym q ∙ u);
            outside = outside-then rounds-outside C.kept.kept.outside;
          }

pub none-bad : (p : Option ℕ) (f : ℕ → Bool) (n : ℕ) → p ≡ lowest f n → p ≡ None → lowest f n ≡ None
none-bad p f n e h = sym e ∙ h

-- what the rounds and the end need of the calls before
pub iterated-room : (s : Shape) (P : Problem) (x : Run) (l1 l2 : List Float) (t : Result Step Refusal) → Iterated s P x l1 l2 t → matrix_at s ≤ length l1 → matrix_at s ≤ length l2
iterated-room s P x l1 l2 t I h = rw I.kept.outside.size h

pub iterated-sums : (f : Frame) (P : Problem) (x : Run) (l1 l2 : List Float) (t : Result Step Refusal) (v : Vec3) → Iterated f.shape P x l1 l2 t → v ≡ right_sums f l1 → v ≡ right_sums f l2
iterated-sums f P x l1 l2 t v I h = h ∙ rw I.kept.right

-- where the network's system stands in the buffer, the problem is the network's
pub problem-held : (net : Network) (l : List Float) (a : ℕ) → LinksSound (links_of net) → Segments net.shape (weights_of net) (terms net) l → a ≡ anchor net →
    problem_by (links_of net) (weights_in net.shape l) (load term l 0 net.shape.cameras) a ≡ problem net
unfolding problem_by
problem-held net l a S G e =
    (λ i. record {
      cameras = net.shape.cameras;
      anchor = a;
      diagonal = diagonal_of (G.terms i);
      right = right_of net.shape.cameras a (G.terms i);
      operator = λ x. reduced-held (links_of net) (weights_of net) (terms net) l S G a x i;
    })
    ∙ (λ i. problem_by (links_of net) (weights_of net) (terms net) (e i))
