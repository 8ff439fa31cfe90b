-- A point that lists a few rows: what is read of each, and the steps that it makes of them. Assumes nothing.
use mathlib.Core.Path.{ap, refl, sym, ◌∙◌, ◌≡◌}
use mathlib.Core.Bool.{Bool, false, true}
use mathlib.Core.List.{List}
use Prim.Native.Nat.{ℕ, ◌*◌, ◌+◌, ◌<◌, ◌≤◌}
use native.Mathlib.Numerals.{add-one}
use native.Mathlib.Omega.{arith}
use borrow.Author.Tests.{eqb-true, eqb-false}
use lib.Dec.{eqb}
use lib.ListN.{get_or, length, set}
use lib.Seq.{get_or-set_same, get_or-set_other}
use lib.Ieee.{Float}
use Rattle.field.proofs.Buffers.{at_load, length-load, load_store, store-load, store-store, vector-lawful}
use Rattle.field.proofs.Counting.{upto-ext, upto-invariant, upto-suc, upto_zero}
use Rattle.field.specs.Buffer.{load, store, vector}
use Rattle.field.specs.Count.{upto}
use Rattle.field.specs.Vec.{at, origin, over, plus}
use Rattle.field.specs.declared.Vec3.{Vec3}
use Rattle.network.specs.Network.{first_end}
use Rattle.network.specs.declared.Shape.{Shape}
use Rattle.network.specs.declared.Span.{Span}
use Rattle.operator.proofs.OperatorLaws.{changed-length}
use Rattle.operator.specs.Operator.{bearing_step, list_step, mean_step, span_pass, times}
use Rattle.operator.specs.inner.Applied.{Seen, SeenFrom, added, applied, blind, pushed, pushed_all, sight_at, summed}
use Rattle.operator.specs.declared.short.Sight.{Sight}
use Rattle.system.specs.inner.Formed.{weights_in}

-- ---- a field that gains, sight by sight

-- a change of a field that keeps its length
record Keeps (F : List Vec3 → List Vec3) : Type 0 where
  kept : (y : List Vec3) → length (F y) ≡ length y

one_kept : (a : ℕ) (u : Vec3) (s : Sight) → Keeps (pushed a u s)
one_kept a u s = record { kept = λ y. changed-length plus a _ _ y }

-- a change of the field at `into`, and then another
both_stored : (l m w : List Float) (into n : ℕ) (F G : List Vec3 → List Vec3) → Keeps F → Keeps G →
    m ≡ store vector l into (F (load vector l into n)) →
    w ≡ store vector m into (G (load vector m into n)) →
    into + 3 * n ≤ length l →
    w ≡ store vector l into (G (F (load vector l into n)))
both_stored l m w into n F G hF hG e f fits =
    let y = F (load vector l into n) in
    f ∙ rw (e, load_store vector vector-lawful l into y n (hF.kept _ ∙ length-load vector l into n) fits) (store-store vector vector-lawful l into y (G y) (sym (hG.kept y)))

-- ---- the bearings listed at n places from k on, each seen

module _ (s : Shape) (ends listed : List ℕ) (l : List Float) (from k n : ℕ) (ts : List Sight) (S : SeenFrom s ends listed l from k n ts) where
  abbrev places : Span
  places = record { first = k; size = n }

  seen-at : (i : ℕ) → i < n → at (load vector l from s.cameras) (first_end ends (get_or listed (k + i) 0)) ≡ (sight_at ts i).at
  seen-at i h = let q = S.each i h in at_load vector l from _ _ origin (omega (arith, q.camera, q.below)) ∙ sym q.at

  -- the sum of their cameras
  summed-is : summed ts n ≡ upto (mean_step ends listed places (weights_in s l) (load vector l from s.cameras)) n origin
  unfolding summed
  summed-is = upto-ext _ _ n origin (λ i v h. let q = S.each i h in rw (seen-at i h, q.weight))

  -- and what they do to a field where the anchor is a and the mean is u
  pushed-is : (a : ℕ) (u : Vec3) (y : List Vec3) → pushed_all a u ts n y ≡ times (list_step ends listed places a u) n (weights_in s l) (load vector l from s.cameras) y
  unfolding bearing_step times pushed_all
  pushed-is a u y = upto-ext _ _ n y (λ i z h. let q = S.each i h in rw (q.camera, seen-at i h, q.weight))

  pub few-done : (a into : ℕ) (m : List Float) (t : Float) (v u : Vec3) → v ≡ summed ts n → u ≡ over v t →
      m ≡ store vector l into (pushed_all a u ts n (load vector l into s.cameras)) →
      m ≡ applied s from into (span_pass ends listed a places t) l
  unfolding applied span_pass
  few-done a into m t v u ev eu f = f ∙ ap (store vector l into) (pushed-is a u _ ∙ rw (eu, ev, summed-is))

-- ---- the loops, one turn more

pub seen-none : (s : Shape) (ends listed : List ℕ) (l : List Float) (from k : ℕ) (ts : List Sight) → SeenFrom s ends listed l from k 0 ts
seen-none s ends listed l from k ts = record { each = λ i h. absurd (omega arith) }

pub seen-more : (s : Shape) (ends listed : List ℕ) (l : List Float) (from k i : ℕ) (ts : List Sight) (t : Sight) → i < length ts → SeenFrom s ends listed l from k i ts →
    Seen s ends l from (get_or listed (k + i) 0) t → SeenFrom s ends listed l from k (i + 1) (set ts i t)
seen-more s ends listed l from k i ts t b S q = record { each = λ j h. go j h (eqb j i) refl }
  where
    go : (j : ℕ) → j < i + 1 → (e : Bool) → eqb j i ≡ e → Seen s ends l from (get_or listed (k + j) 0) (sight_at (set ts i t) j)
    go j h true e = let z : j ≡ i = eqb-true j i e in rw (z, get_or-set_same ts i t blind b) q
    go j h false e = let z = eqb-false j i e in rw (get_or-set_other ts i j t blind z) (S.each j (omega arith))

module _ (ts : List Sight) where
  pub sum-none : (v : Vec3) → v ≡ origin → v ≡ summed ts 0
  unfolding summed
  sum-none v e = e ∙ sym (upto_zero _ origin)

  pub sum-more : (i : ℕ) (v w : Vec3) → v ≡ summed ts i → w ≡ added (sight_at ts i) v → w ≡ summed ts (i + 1)
  unfolding summed
  sum-more i v w ev ew = rw (add-one, upto-suc, ← ev) ew

  module _ (a : ℕ) (u : Vec3) (l : List Float) (into n : ℕ) (fits : into + 3 * n ≤ length l) where
    all-kept : (i : ℕ) → Keeps (pushed_all a u ts i)
    unfolding pushed_all
    all-kept i = record { kept = λ y. upto-invariant (λ j z. length z ≡ length y) (λ j. pushed a u (sight_at ts j)) i y (λ j z h r. (one_kept a u _).kept z ∙ r) refl }

    pub push-none : l ≡ store vector l into (pushed_all a u ts 0 (load vector l into n))
    unfolding pushed_all
    push-none = rw upto_zero (sym (store-load vector vector-lawful l into n fits))

    pub push-more : (i : ℕ) (m w : List Float) → m ≡ store vector l into (pushed_all a u ts i (load vector l into n)) →
        w ≡ store vector m into (pushed a u (sight_at ts i) (load vector m into n)) → w ≡ store vector l into (pushed_all a u ts (i + 1) (load vector l into n))
    unfolding pushed_all
    push-more i m w e f = rw (add-one, upto-suc) (both_stored l m w into n (pushed_all a u ts i) (pushed a u (sight_at ts i)) (all-kept i) (one_kept a u _) e f fits)
