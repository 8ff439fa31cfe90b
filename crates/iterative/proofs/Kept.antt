-- What a store among the six fields keeps of the buffer, and what follows for the system that stands there. Assumes nothing.
use mathlib.Core.Path.{ap, refl, subst, sym, ◌∙◌, ◌≡◌}
use mathlib.Core.Logic.{inr}
use mathlib.Core.List.{List}
use Prim.Native.Nat.{ℕ, ◌*◌, ◌+◌, ◌≤◌}
use native.Mathlib.Omega.{arith}
use lib.ListN.{drop, length, take}
use lib.Seq.{drop-drop}
use lib.Ieee.{Float}
use Rattle.field.proofs.Buffers.{Apart, drop-store, length-store, load_store, load-store-apart, vector-lawful}
use Rattle.field.specs.Buffer.{load, store, vector}
use Rattle.field.specs.declared.Vec3.{Vec3}
use Rattle.network.specs.Network.{Links, rows}
use Rattle.network.specs.declared.Shape.{Shape}
use Rattle.system.specs.System.{Weights, diagonal_of}
use Rattle.system.specs.Work.{positions_at, right_at, term, weights_at}
use Rattle.system.specs.declared.CameraTerm.{CameraTerm}
use Rattle.system.specs.inner.Formed.{Segments, weights_in}
use Rattle.operator.proofs.Buffered.{weights-kept}
use Rattle.operator.specs.Operator.{reduced_by}
use Rattle.iterative.specs.inner.Solver.{Outside, SystemKept, problem_in, problem_with}

-- ---- all but the six fields

pub outside-same : (s : Shape) (l : List Float) → Outside s l l
outside-same s l = record { terms = refl; rest = refl; size = refl }

pub outside-then : {s : Shape} {l m w : List Float} → Outside s l m → Outside s m w → Outside s l w
outside-then a b = record { terms = b.terms ∙ a.terms; rest = b.rest ∙ a.rest; size = b.size ∙ a.size }

pub outside-store : (s : Shape) (l : List Float) (p : ℕ) (f : List Vec3) (w : List Float) → w ≡ store vector l p f → length f ≡ s.cameras → positions_at s ≤ p → p + 3 * s.cameras ≤ weights_at s →
    Outside s l w
outside-store s l p f w e z a b =
    subst (Outside s l) (sym e)
    (record {
      terms = load-store-apart term vector vector-lawful l p f 0 s.cameras (inr (omega arith));
      rest = drop-store vector vector-lawful (weights_at s) l p f (omega arith);
      size = length-store vector l p f;
    })

-- what the solvers read of the buffer
pub segments-outside : (s : Shape) (w : Weights) (t : List CameraTerm) (l m : List Float) → Outside s l m → Segments s w t l → Segments s w t m
segments-outside s w t l m K S =
    let from : (k : ℕ) → drop (weights_at s + k) m ≡ drop (weights_at s + k) l = λ k. sym (drop-drop k (weights_at s) m) ∙ ap (drop k) K.rest ∙ drop-drop k (weights_at s) l in
    let q : weights_at s + s.points + 3 * s.points ≡ weights_at s + 4 * s.points = omega arith in
    record {
      terms = K.terms ∙ S.terms;
      points = ap (take s.points) K.rest ∙ S.points;
      rows = ap (take (rows s)) (rw q (from (4 * s.points))) ∙ S.rows;
    }

-- ---- and the right side

pub kept_same : (s : Shape) (l : List Float) → SystemKept s l l
kept_same s l = record { outside = outside-same s l; right = refl }

pub kept_then : {s : Shape} {l m w : List Float} → SystemKept s l m → SystemKept s m w → SystemKept s l w
kept_then a b = record { outside = outside-then a.outside b.outside; right = b.right ∙ a.right }

-- a field of n vectors that lies elsewhere, and the one that was stored
pub other-field : (n : ℕ) (l : List Float) (p : ℕ) (f : List Vec3) (w : List Float) (q : ℕ) → w ≡ store vector l p f → length f ≡ n → Apart p (3 * n) q (3 * n) → load vector w q n ≡ load vector l q n
other-field n l p f w q e s h =
    ap (λ (t : List Float). load vector t q n) e
    ∙ load-store-apart vector vector vector-lawful l p f q n (subst (λ (k : ℕ). Apart p (3 * k) q (3 * n)) (sym s) h)

pub own-field : (n : ℕ) (l : List Float) (p : ℕ) (f : List Vec3) (w : List Float) → w ≡ store vector l p f → length f ≡ n → p + 3 * n ≤ length l → load vector w p n ≡ f
own-field n l p f w e s h = ap (λ (t : List Float). load vector t p n) e ∙ load_store vector vector-lawful l p f n s h

pub kept_store : (s : Shape) (l : List Float) (p : ℕ) (f : List Vec3) (w : List Float) → w ≡ store vector l p f → length f ≡ s.cameras → positions_at s ≤ p → p + 3 * s.cameras ≤ weights_at s →
    Apart p (3 * s.cameras) (right_at s) (3 * s.cameras) → SystemKept s l w
kept_store s l p f w e z a b h = record { outside = outside-store s l p f w e z a b; right = other-field s.cameras l p f w (right_at s) e z h }

-- ---- the system

pub problem-kept : (s : Shape) (a : ℕ) (l w : List Float) (op : List Vec3 → List Vec3) → SystemKept s l w → problem_with s a w op ≡ problem_with s a l op
problem-kept s a l w op K =
    λ i. record { cameras = s.cameras; anchor = a; diagonal = diagonal_of (K.outside.terms i); right = K.right i; operator = op }

pub problem-in-kept : (L : Links) (a : ℕ) (l w : List Float) → SystemKept L.shape l w → problem_in L a w ≡ problem_in L a l
problem-in-kept L a l w K =
    problem-kept L.shape a l w (reduced_by L (weights_in L.shape w) a) K
    ∙ (λ i. problem_with L.shape a l (reduced_by L (weights-kept L.shape l w K.outside.rest i) a))
