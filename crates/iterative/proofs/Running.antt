-- The rounds one after another, from what the calls ensure. Assumes nothing.
use mathlib.Core.Path.{ap, refl, subst, sym, ◌∙◌, ◌≡◌}
use mathlib.Core.List.{List}
use mathlib.Core.Bool.{Bool, false, true}
use Prim.Native.Nat.{ℕ, ◌+◌, ◌-◌, ◌<◌, ◌≤◌}
use native.Mathlib.Numerals.{add-one}
use native.Mathlib.Omega.{arith}
use lib.Ieee.{Float}
use Rattle.field.proofs.Counting.{upto_add, upto-invariant, upto-suc, upto_zero}
use Rattle.field.specs.Count.{upto}
use Rattle.network.specs.Network.{Links}
use Rattle.network.specs.declared.Shape.{Shape}
use Rattle.field.specs.declared.Vec3.{Vec3}
use Rattle.iterative.proofs.Kept.{kept_same, kept_then, problem-in-kept}
use Rattle.iterative.specs.Method.{Run, State, any, bound_of, continued, ended, failed, inner, moved, next, precondition, redirected, round, running, unless}
use Rattle.iterative.specs.Problem.{Problem, most_rounds}
use Rattle.std.proofs.Common.{Err, Ok, Result}
use Rattle.network.specs.Refusals.{Verdict}
use Rattle.network.specs.declared.Refusal.{Refusal}
use Rattle.iterative.specs.declared.Frame.{Frame}
use Rattle.iterative.specs.declared.Round.{Round}
use Rattle.std.specs.declared.ops.ControlFlow.TheVariants.{Break, Continue}
use Rattle.iterative.specs.inner.Solver.{Step}
use Rattle.iterative.specs.inner.Solver.{Iterated, Rounded, SystemKept, begun, problem_in, right_sums, rounds_from, run_in, state_in}

-- ---- a round that goes on is counted

count_of : Run → ℕ → ℕ
count_of (running s) d = s.round.count
count_of (ended s) d = d
count_of (failed r) d = d

count_unless : (v : Verdict) (x : Run) (d : ℕ) → count_of x d ≡ d → count_of (unless failed v x) d ≡ d
unfolding count_of
count_unless (Err q) x d h = refl
count_unless (Ok u) x d h = h

module _ (P : Problem) where
  count-continued : (b : Bool) (s : State) → count_of (continued P b s) s.round.count ≡ s.round.count
  unfolding count_of redirected
  count-continued true s =
      let z = precondition P s.residual in
      let new = inner P s.residual z in
      count_unless _ (running (redirected P s z new)) s.round.count refl
  count-continued false s = refl

  count-round : (s : State) → count_of (round P s) (s.round.count + 1) ≡ s.round.count + 1
  unfolding round moved
  count-round s =
      let curvature = inner P s.search (P.operator s.search) in
      let t = moved P s (P.operator s.search) curvature in
      count_unless _ (continued P (any t.round.active) t) (s.round.count + 1)
      (count-continued (any t.round.active) t)

  counted : (s t : State) → round P s ≡ running t → t.round.count ≡ s.round.count + 1
  unfolding count_of
  counted s t e = sym (ap (λ (x : Run). count_of x (s.round.count + 1)) e) ∙ count-round s

  -- ---- one round more, and a run that is over

  rounds-more : (k : ℕ) (x y : Run) (s : State) → rounds_from P k x ≡ running s → y ≡ round P s → rounds_from P (k + 1) x ≡ y
  unfolding rounds_from
  rounds-more k x y s e h = rw (add-one, upto-suc, e) (sym h)

  pub rounds-over : (k : ℕ) (x : Run) → next P x ≡ x → rounds_from P k x ≡ x
  unfolding rounds_from
  rounds-over k x h = upto-invariant (λ (j : ℕ) (y : Run). y ≡ x) (λ (_ : ℕ). next P) k x (λ j y l e. ap (next P) e ∙ h) refl

  rounds-stay : (k m : ℕ) (x y : Run) → next P y ≡ y → rounds_from P k x ≡ y → k ≤ m → rounds_from P m x ≡ y
  unfolding rounds_from
  rounds-stay k m x y h e l =
      let q : m ≡ k + (m - k) = omega arith in
      ap (λ (j : ℕ). upto (λ (_ : ℕ). next P) j x) q ∙ upto_add (λ (_ : ℕ). next P) k (m - k) x ∙ ap (λ (z : Run). upto (λ (_ : ℕ). next P) (m - k) z) e ∙ rounds-over (m - k) y h

-- ---- the loop over the rounds: the record r and the buffer l1 after k of them, from the record `first` and the buffer l

pub record Rounds (L : Links) (a : ℕ) (l : List Float) (first : Round) (k : ℕ) (l1 : List Float) (r : Round) : Type 0 where
  pub count : r.count ≡ k
  pub run : rounds_from (problem_in L a l) k (running (state_in L.shape l first)) ≡ running (state_in L.shape l1 r)
  pub kept : SystemKept L.shape l l1

module _ (L : Links) (a : ℕ) (l : List Float) (first : Round) where
  abbrev s : Shape
  s = L.shape

  abbrev P : Problem
  P = problem_in L a l

  pub rounds-none : first.count ≡ 0 → Rounds L a l first 0 l first
  unfolding rounds_from
  rounds-none h = record { count = h; run = upto_zero _ _; kept = kept_same s l }

  module _ (l1 l2 : List Float) (r : Round) (k : ℕ) (x : Result Step Refusal) (R : Rounds L a l first k l1 r) (D : Rounded s (problem_in L a l1) r l1 l2 x) where
    own : Rounded s P r l1 l2 x
    own = subst (λ (Q : Problem). Rounded s Q r l1 l2 x) (problem-in-kept L a l l1 R.kept) D

    pub rounds-next : (t : Round) → x ≡ Ok (Continue t) → Rounds L a l first (k + 1) l2 t
    rounds-next t e =
        let q : running (state_in s l2 t) ≡ round P (state_in s l1 r) = rw e at own.run in
        record {
          count = counted P (state_in s l1 r) (state_in s l2 t) (sym q) ∙ ap (λ (j : ℕ). j + 1) R.count;
          run = rounds-more P k _ (running (state_in s l2 t)) (state_in s l1 r) R.run q;
          kept = kept_then R.kept own.kept;
        }

    -- a round that does not go on
    over : (m : ℕ) → k < m → (y : Result Step Refusal) → x ≡ y → next P (run_in s l2 y) ≡ run_in s l2 y → run_in s l2 y ≡ rounds_from P m (running (state_in s l first))
    over m h y e f = sym (rounds-stay P (k + 1) m _ (run_in s l2 y) f (rounds-more P k _ (run_in s l2 y) (state_in s l1 r) R.run (rw e at own.run)) (omega arith))

    stopped : (m : ℕ) → m ≡ most_rounds s.cameras → k < m → (y : Result Step Refusal) → x ≡ y → next P (run_in s l2 y) ≡ run_in s l2 y → Iterated s P (running (state_in s l first)) l l2 x
    stopped m em h y e f = record { run = rw (← em, e) (over m h y e f); kept = kept_then R.kept own.kept }

    pub rounds-failed : (m : ℕ) {q : Refusal} → m ≡ most_rounds s.cameras → k < m → x ≡ Err q → Iterated s P (running (state_in s l first)) l l2 (Err q)
    rounds-failed m {q} em h e = let I = stopped m em h (Err q) e refl in record { run = rw e at I.run; kept = I.kept }

    pub rounds-done : (m : ℕ) (t : Round) → m ≡ most_rounds s.cameras → k < m → x ≡ Ok (Break t) → Iterated s P (running (state_in s l first)) l l2 (Ok (Break t))
    rounds-done m t em h e = let I = stopped m em h (Ok (Break t)) e refl in record { run = rw e at I.run; kept = I.kept }

  -- ---- with a first round, or none

  pub iterated-begun : (b : Bool) (l1 : List Float) (x : Result Step Refusal) → b ≡ any first.active → b ≡ true → Iterated s P (running (state_in s l first)) l l1 x →
      Iterated s P (begun (state_in s l first)) l l1 x
  iterated-begun b l1 x e h I = let q : any first.active ≡ true = sym e ∙ h in record { run = rw q I.run; kept = I.kept }

  pub iterated-none : (b : Bool) → b ≡ any first.active → b ≡ false → Iterated s P (begun (state_in s l first)) l l (Ok (Break first))
  iterated-none b e h = let q : any first.active ≡ false = sym e ∙ h in record { run = rw q (sym (rounds-over P (most_rounds s.cameras) (ended (state_in s l first)) refl)); kept = kept_same s l }

pub bound-right : (f : Frame) (l : List Float) (sums bound : Vec3) → bound ≡ bound_of sums → sums ≡ right_sums f l → bound ≡ bound_of (right_sums f l)
bound-right f l sums bound e h = rw (e, h)
