-- The steps of the substitutions, in a buffer s that holds the factor and then the right side. Assumes nothing.
use mathlib.Core.Path.{◌≡◌, refl, sym, ap, ap₂, ◌∙◌}
use mathlib.Core.Bool.{Bool, true, false}
use mathlib.Core.List.{List}
use Prim.Native.Nat.{ℕ, suc, ◌+◌, ◌-◌, ◌*◌, ◌≤◌, ◌<◌}
use native.Mathlib.Numerals.{add-one}
use native.Mathlib.Omega.{arith}
use lib.ListN.{length, set, take, length-set}
use lib.Seq.{get_or-take}
use lib.Ieee.{Float, nan}
use Rattle.field.specs.declared.Vec3.{Vec3}
use Rattle.field.specs.Vec.{at, is_finite, origin, minus, scale, over}
use Rattle.field.specs.Count.{upto}
use Rattle.field.specs.Buffer.{get, put, load, store, vector}
use Rattle.field.proofs.Counting.{upto_zero, upto-suc, upto-keeps}
use Rattle.field.proofs.Buffers.{at_load, length-load, load-put, load_store, put-store, store-load, take-store, take-write, vector-lawful}
use Rattle.std.proofs.Common.{Result, Ok, Err}
use Rattle.cholesky.specs.declared.Breakdown.{Breakdown}
use Rattle.cholesky.specs.declared.Breakdown.TheVariants.{Solution}
use Rattle.cholesky.specs.Cholesky.{run, ended, entry, forward_step, forward_vector, forward_row, forward}
use Rattle.cholesky.specs.Cholesky.{back_step, back_vector, back_row, back_turn, back, Substituted}
use Rattle.cholesky.proofs.Places.{place-below}
use Rattle.cholesky.proofs.Runs.{run_none, run_more, run-stops}
use Rattle.cholesky.proofs.Factored.{ended-done, ended-stopped}

module _ (d : ℕ) where
  -- the factor and the right side that s holds
  abbrev L : List Float → List Float
  L s = take (d * d) s

  abbrev right : List Float → List Vec3
  right s = load vector s (d * d) d

  -- ---- a row's vector

  module _ (s : List Float) where
    factor-at : (i j : ℕ) → i < d → j < d → entry d s i j ≡ entry d (L s) i j
    factor-at i j h k = sym (get_or-take (d * d) s (i * d + j) nan (place-below d i j h k))

    vector-at : (k : ℕ) → k < d → get vector s (d * d + 3 * k) ≡ at (right s) k
    vector-at k h = sym (at_load vector s (d * d) d k origin h)

    pub vector-taken : (i j k : ℕ) (v g m w : Vec3) (e : Float) →
        g ≡ get vector s (d * d + 3 * k) →
        e ≡ entry d s i j →
        m ≡ scale g e →
        w ≡ minus v m →
        i < d →
        j < d →
        k < d →
        w ≡ minus v (scale (at (right s) k) (entry d (L s) i j))
    vector-taken i j k v g m w e eg ee em ew hi hj hk = ew ∙ ap (minus v) (em ∙ ap₂ scale (eg ∙ vector-at k hk) (ee ∙ factor-at i j hi hj))

    pub forward-vector-none : (i : ℕ) (z : Vec3) → z ≡ upto (forward_step d (L s) (right s) i) 0 z
    forward-vector-none i z = sym (upto_zero _ z)

    pub forward-vector-more : (i k : ℕ) (z v w : Vec3) →
        v ≡ upto (forward_step d (L s) (right s) i) k z →
        w ≡ minus v (scale (at (right s) k) (entry d (L s) i k)) →
        w ≡ upto (forward_step d (L s) (right s) i) (k + 1) z
    forward-vector-more i k z v w ev ew = rw (add-one, upto-suc) (ew ∙ ap (forward_step d (L s) (right s) i k) ev)

    pub forward-vector-ended : (i k : ℕ) (z v w : Vec3) (e : Float) →
        z ≡ get vector s (d * d + 3 * i) →
        v ≡ upto (forward_step d (L s) (right s) i) k z →
        e ≡ entry d s i i →
        w ≡ over v e →
        k ≤ i →
        i ≤ k →
        i < d →
        w ≡ forward_vector d (L s) (right s) i
    unfolding forward_vector
    forward-vector-ended i k z v w e ez ev ee ew a b h =
        let q : k ≡ i = omega arith in
        ew ∙ ap₂ over (rw q at ev ∙ ap (upto (forward_step d (L s) (right s) i) i) (ez ∙ vector-at i h)) (ee ∙ factor-at i i h h)

    -- k counts from row i + 1 on
    pub back-vector-none : (i : ℕ) (z : Vec3) → z ≡ upto (back_step d (L s) (right s) i) (i + 1 - suc i) z
    back-vector-none i z = let e : i + 1 - suc i ≡ 0 = omega arith in rw e (sym (upto_zero _ z))

    pub back-vector-more : (i k : ℕ) (z v w : Vec3) →
        v ≡ upto (back_step d (L s) (right s) i) (k - suc i) z →
        w ≡ minus v (scale (at (right s) k) (entry d (L s) k i)) →
        i + 1 ≤ k →
        w ≡ upto (back_step d (L s) (right s) i) (k + 1 - suc i) z
    back-vector-more i k z v w ev ew h =
        let t = k - suc i in
        let e : k ≡ suc i + t = omega arith in
        let f : k + 1 - suc i ≡ suc t = omega arith in
        rw (f, upto-suc) (
        ew
        ∙ ap (λ (j : ℕ). minus v (scale (at (right s) j) (entry d (L s) j i))) e
        ∙ ap (back_step d (L s) (right s) i t) ev)

    pub back-vector-ended : (i k : ℕ) (z v w : Vec3) (e : Float) →
        z ≡ get vector s (d * d + 3 * i) →
        v ≡ upto (back_step d (L s) (right s) i) (k - suc i) z →
        e ≡ entry d s i i →
        w ≡ over v e →
        k ≤ d →
        d ≤ k →
        i < d →
        w ≡ back_vector d (L s) (right s) i
    unfolding back_vector
    back-vector-ended i k z v w e ez ev ee ew a b h =
        let q : k ≡ d = omega arith in
        ew ∙ ap₂ over (rw q at ev ∙ ap (upto (back_step d (L s) (right s) i) (d - suc i)) (ez ∙ vector-at i h)) (ee ∙ factor-at i i h h)

  -- ---- the forward substitution

  -- the right side after i rows
  abbrev forward_rows : List Float → ℕ → List Vec3
  forward_rows l i = upto (forward_row d (L l)) i (right l)

  length-forward : (l : List Float) (i : ℕ) → length (forward_rows l i) ≡ d
  length-forward l i = upto-keeps length (forward_row d (L l)) i (right l) (λ k z h. length-set z k _) ∙ length-load vector l (d * d) d

  -- what a buffer has when its right side is y
  holds-factor : (l s : List Float) (y : List Vec3) → s ≡ store vector l (d * d) y → L s ≡ L l
  holds-factor l s y e = rw e (take-store vector (d * d) l (d * d) y (omega arith))

  holds-right : (l s : List Float) (y : List Vec3) → s ≡ store vector l (d * d) y → length y ≡ d → length l ≡ d * d + 3 * d → right s ≡ y
  holds-right l s y e h k = rw e (load_store vector vector-lawful l (d * d) y d h (omega arith))

  pub forward-rows-none : (l : List Float) → length l ≡ d * d + 3 * d → l ≡ store vector l (d * d) (forward_rows l 0)
  unfolding upto
  forward-rows-none l h = sym (store-load vector vector-lawful l (d * d) d (omega arith))

  pub forward-rows-more : (l s w : List Float) (i : ℕ) (v : Vec3) →
      s ≡ store vector l (d * d) (forward_rows l i) →
      v ≡ forward_vector d (L s) (right s) i →
      w ≡ put vector s (d * d + 3 * i) v →
      i < d →
      length l ≡ d * d + 3 * d →
      w ≡ store vector l (d * d) (forward_rows l (i + 1))
  forward-rows-more l s w i v e ev ew h k =
      let y = forward_rows l i in
      let n : length y ≡ d = length-forward l i in
      let f : v ≡ forward_vector d (L l) y i = rw (holds-factor l s y e, holds-right l s y e n k) at ev in
      rw (add-one, upto-suc) (ew ∙ rw (e, f) (put-store vector vector-lawful l (d * d) y i (forward_vector d (L l) y i) (omega arith)))

  pub forward-rows-ended : (l s : List Float) (i : ℕ) → s ≡ store vector l (d * d) (forward_rows l i) → i ≤ d → d ≤ i → s ≡ store vector l (d * d) (forward d (L l) (right l))
  unfolding forward
  forward-rows-ended l s i e a b = let q : i ≡ d = omega arith in rw q at e

  -- ---- the back substitution

  module _ (l : List Float) (i : ℕ) (v : Vec3) (b : Bool) (ev : v ≡ back_vector d (L l) (right l) i) (eb : b ≡ is_finite v) where
    pub back-row-done : (s : List Float) → b ≡ true → s ≡ put vector l (d * d + 3 * i) v → i < d → length l ≡ d * d + 3 * d → Substituted d l s (Ok tt) (back_row d (L l) i (right l))
    unfolding back_row put
    back-row-done s t es h k =
        let q : is_finite (back_vector d (L l) (right l) i) ≡ true = rw ev at (sym eb ∙ t) in
        record {
          answer = rw q (ap Ok (rw es (load-put vector vector-lawful l (d * d) d i v h (omega arith)) ∙ ap (set (right l) i) ev));
          factor = rw es (take-write (d * d) l (d * d + 3 * i) _ (omega arith));
        }

    pub back-row-stopped : b ≡ false → Substituted d l l (Err (Solution i)) (back_row d (L l) i (right l))
    unfolding back_row
    back-row-stopped t =
        let q : is_finite (back_vector d (L l) (right l) i) ≡ false = rw ev at (sym eb ∙ t) in
        record { answer = rw q refl; factor = refl }

  -- l is the buffer before the loop, s after the rows from row i on
  pub record BackRows (l s : List Float) (i : ℕ) : Type 0 where
    rows : run (back_turn d (L l)) (d - i) (right l) ≡ Ok (right s)
    factor : L s ≡ L l

  pub back-rows-none : (l : List Float) → BackRows l l d
  back-rows-none l = record { rows = let e : d - d ≡ 0 = omega arith in rw e (run_none _ _); factor = refl }

  module _ (l s w : List Float) (i : ℕ) (r : Result (Unit {0}) Breakdown) (h : BackRows l s i) (g : Substituted d s w r (back_row d (L s) (i - 1) (right s))) (low : 0 < i) (high : i ≤ d) where
    row-answer : ended r (right w) ≡ back_turn d (L l) (d - i) (right s)
    row-answer = let e : i - 1 ≡ d - suc (d - i) = omega arith in rw (e, h.factor) at g.answer

    pub back-rows-more : r ≡ Ok tt → BackRows l w (i - 1)
    back-rows-more e = record {
      rows = let f : d - (i - 1) ≡ suc (d - i) = omega arith in rw f (run_more _ _ _ _ h.rows ∙ ended-done _ _ _ row-answer e);
      factor = g.factor ∙ h.factor;
    }

    pub back-rows-stopped : (b : Breakdown) → r ≡ Err b → Substituted d l w (Err b) (back d (L l) (right l))
    unfolding back
    back-rows-stopped b e =
        let q = ended-stopped _ _ _ _ row-answer e in
        record { answer = sym (run-stops _ _ _ _ _ _ h.rows q (omega arith)); factor = g.factor ∙ h.factor }

  pub back-rows-ended : (l s : List Float) (i : ℕ) → BackRows l s i → i ≤ 0 → Substituted d l s (Ok tt) (back d (L l) (right l))
  unfolding back
  back-rows-ended l s i h a = let e : d - i ≡ d = omega arith in record { answer = sym (rw e at h.rows); factor = h.factor }

  -- both, one after the other
  pub substituted : (l s w : List Float) (r : Result (Unit {0}) Breakdown) →
      length l ≡ d * d + 3 * d →
      s ≡ store vector l (d * d) (forward d (L l) (right l)) →
      Substituted d s w r (back d (L s) (right s)) →
      Substituted d l w r (back d (L l) (forward d (L l) (right l)))
  unfolding forward
  substituted l s w r k e g =
      let a : L s ≡ L l = holds-factor l s (forward_rows l d) e in
      let b : right s ≡ forward_rows l d = holds-right l s (forward_rows l d) e (length-forward l d) k in
      record { answer = rw (a, b) at g.answer; factor = g.factor ∙ a }
