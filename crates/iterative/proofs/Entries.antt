-- The passes over the cameras: what each turn stores is the field's own entry; sums over the cameras but the anchor. Assumes nothing.
use Rattle.std.proofs.Common.{None, Some, Option, MatchOption}
use mathlib.Core.Path.{sym, ◌∙◌, ◌≡◌}
use mathlib.Core.List.{List}
use mathlib.Core.Bool.{Bool, cond, not, ◌&&◌, true, false}
use Prim.Native.Nat.{ℕ, ◌*◌, ◌+◌, ◌<◌, ◌≤◌}
use native.Mathlib.Nat.{zero-add}
use native.Mathlib.Numerals.{add-one}
use native.Mathlib.Omega.{arith}
use lib.Dec.{eqb}
use lib.ListN.{length}
use lib.Ieee.{Float}
use lib.Ieee.Scale.{finite}
use Rattle.field.proofs.Buffers.{at_load, seen-before, vector-lawful}
use Rattle.field.proofs.Counting.{upto-suc, upto_zero, lowest-is, lowest-none}
use Rattle.field.proofs.Fills.{fill_more, fill_none, filled_at, seen-later, seen-own, seen-prior}
use Rattle.field.specs.Buffer.{get, load, put, store, vector}
use Rattle.field.specs.Count.{field, lowest, upto}
use Rattle.field.specs.Vec.{at, minus, origin, over, plus}
use Rattle.field.specs.declared.Vec3.{Vec3}
use Rattle.system.specs.System.{no_term, term_at, diagonal_of}
use Rattle.system.specs.Work.{term, term_place}
use Rattle.system.proofs.Terms.{term-here}
use Rattle.iterative.specs.Method.{bad_diagonal, difference_entry, preconditioned_entry, search_entry, search_step, stepped, stepped_entry}
use Rattle.iterative.specs.Problem.{dot_step, times}
use Rattle.iterative.specs.declared.Active.{Active}
use Rattle.iterative.specs.inner.Solver.{Summed, diagonal_in}

-- ---- the camera terms, in a buffer that no loop has changed and behind which a field is stored

pub diagonal-here : (l : List Float) (n i : ℕ) → i < n → diagonal_in l i ≡ diagonal_of (load term l 0 n) i
unfolding diagonal_of
diagonal-here l n i h = rw (term-here l n i h)

module _ (l w : List Float) (p : ℕ) (g : ℕ → Vec3) (n i : ℕ) (e : w ≡ store vector l p (field i g)) (h : i < n) (k : term_place n ≤ p) where
  term-seen : get term w (term_place i) ≡ term_at (load term l 0 n) i
  term-seen = rw zero-add at (seen-before term vector vector-lawful l w p (field i g) 0 n i no_term e (omega arith) h)

  diagonal-seen : diagonal_in w i ≡ diagonal_of (load term l 0 n) i
  unfolding diagonal_of
  diagonal-seen = rw term-seen

-- ---- the search for a bad diagonal

-- as the code tests it
abbrev pub bad_in : List Float → ℕ → ℕ → Bool
bad_in l a i = not (eqb i a) && not (finite (diagonal_in l i))

module _ (l : List Float) (n a : ℕ) where
  abbrev bad : ℕ → Bool
  bad = bad_diagonal a (diagonal_of (load term l 0 n))

  bad-is : (i : ℕ) → i < n → bad i ≡ bad_in l a i
  unfolding bad_diagonal
  bad-is i h = rw (diagonal-here l n i h)

  bad-found : (i : ℕ) → i < n → bad_in l a i ≡ true → ((k : ℕ) → 0 ≤ k → k < i → bad_in l a k ≡ false) → Some i ≡ lowest bad n
  bad-found i h t f = sym (lowest-is bad i n (bad-is i h ∙ t) h (λ k b. bad-is k (omega arith) ∙ f k (omega arith) b))

  bad-none : ((k : ℕ) → 0 ≤ k → k < n → bad_in l a k ≡ false) → None ≡ lowest bad n
  bad-none f = sym (lowest-none bad n (λ k b. bad-is k b ∙ f k (omega arith) b))

  -- what the search tells
  pub bad-searched : {r : Option ℕ} → MatchOption r ((k : ℕ) → 0 ≤ k → k < n → bad_in l a k ≡ false)
      (λ i. (0 ≤ i) × (i < n) × (bad_in l a i ≡ true) × ((k : ℕ) → 0 ≤ k → k < i → bad_in l a k ≡ false)) → r ≡ lowest bad n
  bad-searched {r = Some i} t = bad-found i t.1 t.2 t.3
  bad-searched {r = None} t = bad-none t

-- ---- a sum over the cameras but the anchor

pub dot-same : (f g : List Vec3) (a i : ℕ) (s : Vec3) → eqb i a ≡ true → s ≡ dot_step a f g i s
unfolding dot_step
dot-same f g a i s e = rw e

pub dot-added : (l : List Float) (n a p q i : ℕ) (s x y t : Vec3) → eqb i a ≡ false → i < n →
    x ≡ get vector l (p + 3 * i) → y ≡ get vector l (q + 3 * i) → t ≡ plus s (times x y) → t ≡ dot_step a (load vector l p n) (load vector l q n) i s
unfolding dot_step
dot-added l n a p q i s x y t e h ex ey k =
    let u : at (load vector l p n) i ≡ x = at_load vector l p n i origin h ∙ sym ex in
    let w : at (load vector l q n) i ≡ y = at_load vector l q n i origin h ∙ sym ey in
    rw (e, u, w) k

module _ (f g : List Vec3) (a : ℕ) where
  pub dot-none : (s : Vec3) → s ≡ origin → s ≡ upto (dot_step a f g) 0 origin
  dot-none s e = e ∙ sym (upto_zero _ origin)

  pub dot-more : (i : ℕ) (s t : Vec3) → s ≡ upto (dot_step a f g) i origin → t ≡ dot_step a f g i s → t ≡ upto (dot_step a f g) (i + 1) origin
  dot-more i s t e k = rw (add-one, upto-suc, ← e) k

-- a dot that is summed in the pass that stores its second field g, or both of whose fields are g: w has i + 1 of its vectors stored from p on
module _ (g : ℕ → Vec3) (l w : List Float) (p n a i : ℕ) (s t : Vec3) (e : w ≡ store vector l p (field (i + 1) g)) (m : p + 3 * n ≤ length l) (h : i < n) where
  own-stored : at (load vector w p n) i ≡ at (field n g) i
  own-stored = at_load vector w p n i origin h ∙ filled_at g l p n i w e m h

  pub dot-with : (q : ℕ) → q + 3 * n ≤ p → s ≡ upto (dot_step a (load vector l q n) (field n g)) i origin → t ≡ dot_step a (load vector w q n) (load vector w p n) i s →
      t ≡ upto (dot_step a (load vector l q n) (field n g)) (i + 1) origin
  unfolding dot_step
  dot-with q k f d =
      let x : at (load vector w q n) i ≡ at (load vector l q n) i = at_load vector w q n i origin h ∙ seen-before vector vector vector-lawful l w p _ q n i origin e k h in
      rw (add-one, upto-suc, ← f) (d ∙ rw (x, own-stored))

  pub dot-self : s ≡ upto (dot_step a (field n g) (field n g)) i origin → t ≡ dot_step a (load vector w p n) (load vector w p n) i s →
      t ≡ upto (dot_step a (field n g) (field n g)) (i + 1) origin
  unfolding dot_step
  dot-self f d = rw (add-one, upto-suc, ← f) (d ∙ rw own-stored)

-- ---- a field that is filled, and its dot summed in the same pass: no vector, and one more

module _ (g : ℕ → Vec3) (n a with into : ℕ) (l : List Float) where
  pub summed-none : (t : Vec3) → t ≡ origin → Summed g n a with into l 0 l t
  summed-none t e = record { filled = fill_none g l into; own = λ _. dot-none _ (field n g) a t e; prior = λ _. dot-none _ (field n g) a t e }

  pub summed-more : (i : ℕ) (m w : List Float) (v t u : Vec3) → i < n → into + 3 * n ≤ length l → Summed g n a with into l i m t → v ≡ g i →
      w ≡ put vector m (into + 3 * i) v → u ≡ dot_step a (load vector w with n) (load vector w into n) i t → Summed g n a with into l (i + 1) w u
  summed-more i m w v t u h r S ev ew eu =
      let e = fill_more g l into i m w v S.filled ev ew in
      record {
        filled = e;
        own = λ q. dot-self g l w into n a i t u e r h (S.own q) (rw q at eu);
        prior = λ k. dot-with g l w into n a i t u e r h with k (S.prior k) eu;
      }

-- ---- what a turn makes, of a buffer m that has the first i vectors stored, is the field's own vector

module _ (n a : ℕ) (l m : List Float) (i : ℕ) (v : Vec3) (h : i < n) where
  module _ (from into : ℕ) (k : term_place n ≤ from) (apart : from + 3 * n ≤ into) where
    abbrev z : ℕ → Vec3
    z = preconditioned_entry a (diagonal_of (load term l 0 n)) (load vector l from n)

    pub preconditioned-made : m ≡ store vector l into (field i z) → v ≡ cond (eqb i a) origin (over (get vector m (from + 3 * i)) (diagonal_in m i)) → v ≡ z i
    unfolding preconditioned_entry
    preconditioned-made e f = f ∙ rw (seen-prior l m into _ n i e h from apart, diagonal-seen l m into _ n i e h (omega arith))

  module _ (from into : ℕ) (apart : from + 3 * n ≤ into) where
    module _ (active : Active) (beta : Vec3) where
      abbrev p : ℕ → Vec3
      p = search_entry active beta (load vector l from n) (load vector l into n)

      pub search-made : m ≡ store vector l into (field i p) → v ≡ search_step active beta (get vector m (from + 3 * i)) (get vector m (into + 3 * i)) → v ≡ p i
      unfolding search_entry
      search-made e f = f ∙ rw (seen-prior l m into _ n i e h from apart, seen-own l m into _ n i e h)

    abbrev d : ℕ → Vec3
    d = difference_entry (load vector l into n) (load vector l from n)

    pub difference-made : m ≡ store vector l into (field i d) → v ≡ minus (get vector m (into + 3 * i)) (get vector m (from + 3 * i)) → v ≡ d i
    unfolding difference_entry
    difference-made e f = f ∙ rw (seen-prior l m into _ n i e h from apart, seen-own l m into _ n i e h)

  module _ (op : Float → Float → Float) (active : Active) (alpha : Vec3) (into along : ℕ) (apart : into + 3 * n ≤ along) where
    abbrev y : ℕ → Vec3
    y = stepped_entry a op active alpha (load vector l into n) (load vector l along n)

    pub stepped-made : m ≡ store vector l into (field i y) →
        v ≡ cond (eqb i a) (get vector m (into + 3 * i)) (stepped op active alpha (get vector m (into + 3 * i)) (get vector m (along + 3 * i))) → v ≡ y i
    unfolding stepped_entry
    stepped-made e f = f ∙ rw (seen-own l m into _ n i e h, seen-later l m into _ n i e h along apart)
