-- The count in a camera's term is how many rows entered its diagonal, and what these counts sum to: specs/Counts. Assumes nothing.
use mathlib.Core.Path.{◌≡◌, refl, sym, ap, ap₂, ◌∙◌}
use mathlib.Core.Logic.{dite}
use mathlib.Core.List.{List}
use mathlib.Core.Bool.{Bool, true, false, cond, not, ◌&&◌, and-true, and-false}
use Prim.Native.Nat.{ℕ, suc, ◌+◌, ◌*◌, ◌^◌, ◌≤◌, ◌<◌}
use native.Mathlib.Nat.{le_trans, add-zero}
use native.Mathlib.Numerals.{add-one}
use native.Mathlib.Decide.{ℕ_discrete}
use native.Mathlib.Omega.{arith}
use borrow.Author.Tests.{ltb-false, lt-ltb, le-ltb, eq-eqb, ne_eqb}
use lib.Dec.{eqb, lit≤}
use lib.IntN.{pos}
use lib.ListN.{length, set, length-set}
use lib.Seq.{get_or-set_same, get_or-set_other}
use lib.Ieee.{Float, binary64, prec, add, lt, of_int, of_bits}
use Rattle.double.proofs.Whole.{add-one-whole, lt-of-whole}
use Rattle.std.specs.Int.{from_bool}
use Rattle.field.specs.Count.{field, sum_below, count_below}
use Rattle.field.proofs.Counting.{upto-invariant, get_or-field, length-field}
use Rattle.field.proofs.Sums.{sum-none, sum-suc, sum-ext, sum-split, sum_same, sum_zeros, sum-add, sum-swap, sum_bound, sum_one, count-ext, from_bool-most}
use Rattle.network.specs.Network.{Network, rows, first_end, second_end, is_bearing}
use Rattle.network.specs.inner.Sound.{NetworkSound}
use Rattle.network.proofs.Sound.{tests-sound}
use Rattle.system.specs.declared.CameraTerm.{CameraTerm}
use Rattle.system.specs.System.{tiny, one, two, point_weight, no_term, sees, departs, arrives, term_at, add_bearing, add_direction, assemble_row, assemble_rows, terms, sums_from, sums_of}
use Rattle.system.specs.Counts.{bearing_enters, entries, row_count, few, RowCounts}
use Rattle.system.specs.inner.Formed.{few_in}

-- ---- one term's count

abbrev whole : ℕ → Float
whole k = of_int binary64 (pos k)

-- what stays far below 2 ^ 53
small : (k : ℕ) → k ≤ 1000000 → k ≤ 2 ^ prec binary64
small k h = le_trans h (lit≤ tt)

-- a row that enters if b adds 1 to a count of k then
counted-once : (b : Bool) (x : Float) (k : ℕ) → k ≤ 1000000 → x ≡ whole k → cond b (add binary64 x one) x ≡ whole (k + from_bool b)
unfolding of_bits
counted-once true x k h e = rw (e, add-one) (add-one-whole binary64 k (small k h))
counted-once false x k h e = rw add-zero e

-- the counts of n terms are g's
pub record Counted (n : ℕ) (g : ℕ → ℕ) (ts : List CameraTerm) : Type 0 where
  pub size : length ts ≡ n
  pub count : (c : ℕ) → c < n → (term_at ts c).count ≡ whole (g c)

-- camera a's term is changed, and its count goes up by 1 if b
count_set : (n : ℕ) (g : ℕ → ℕ) (ts : List CameraTerm) (a : ℕ) (b : Bool) (t : CameraTerm) → a < n → ((c : ℕ) → g c ≤ 1000000) → Counted n g ts →
    t.count ≡ cond b (add binary64 (term_at ts a).count one) (term_at ts a).count → Counted n (λ c. g c + from_bool (b && eqb a c)) (set ts a t)
count_set n g ts a b t l m C e = record { size = length-set ts a t ∙ C.size; count = λ c h. dite (ℕ_discrete a c) (hit c h) (miss c h) }
  where
    hit : (c : ℕ) → c < n → a ≡ c → (term_at (set ts a t) c).count ≡ whole (g c + from_bool (b && eqb a c))
    hit c h q =
        let s : term_at (set ts a t) a ≡ t = get_or-set_same ts a t no_term (omega (arith, C.size)) in
        let w : t.count ≡ whole (g a + from_bool b) = e ∙ counted-once b (term_at ts a).count (g a) (m a) (C.count a l) in
        rw (eq-eqb a c q, and-true b, ← q) (ap (λ (u : CameraTerm). u.count) s ∙ w)

    miss : (c : ℕ) → c < n → (a ≡ c → ⊥) → (term_at (set ts a t) c).count ≡ whole (g c + from_bool (b && eqb a c))
    miss c h q = rw (ne_eqb a c q, and-false b, add-zero) (ap (λ (u : CameraTerm). u.count) (get_or-set_other ts a c t no_term (λ e. q (sym e))) ∙ C.count c h)

-- ---- row after row

turned : (q : Bool) (x y : Float) → cond q x y ≡ cond (not q) y x
turned true x y = refl
turned false x y = refl

module _ (net : Network) (N : NetworkSound net) where
  abbrev n : ℕ
  n = net.shape.cameras

  -- the entries of the first k rows
  abbrev up_to : ℕ → ℕ → ℕ
  up_to k c = sum_below (entries net c) k

  two-most : (c r : ℕ) → entries net c r ≤ 2
  unfolding entries
  two-most c r = go (is_bearing net.shape r)
    where
      a : Bool
      a = eqb (first_end net.ends r) c

      b : Bool
      b = eqb (second_end net.ends r) c

      go : (q : Bool) → cond q (from_bool (bearing_enters net r && a)) (from_bool a + from_bool b) ≤ 2
      go true = let h = from_bool-most (bearing_enters net r && a) in omega arith
      go false = let h = from_bool-most a in let k = from_bool-most b in omega arith

  up_to-small : (k c : ℕ) → k ≤ rows net.shape → up_to k c + 1 ≤ 1000000
  up_to-small k c h = omega (arith, sum_bound (entries net c) 2 k (two-most c), N.links.ends.shape)

  row-counted : (r : ℕ) (ts : List CameraTerm) → r < rows net.shape → Counted n (up_to r) ts → Counted n (up_to (suc r)) (assemble_row net.shape net.ends r (sums_of net) ts)
  unfolding assemble_row add_bearing add_direction sees departs arrives entries bearing_enters sums_from
  row-counted r ts l C = go (is_bearing net.shape r) refl
    where
      a : ℕ
      a = first_end net.ends r

      b : ℕ
      b = second_end net.ends r

      small_r : (c : ℕ) → up_to r c + 1 ≤ 1000000
      small_r c = up_to-small r c (omega arith)

      -- g are the counts after the row
      summed : (g : ℕ → ℕ) (us : List CameraTerm) → Counted n g us → ((c : ℕ) → g c ≡ up_to r c + entries net c r) → Counted n (up_to (suc r)) us
      summed g us D e = record { size = D.size; count = λ c h. D.count c h ∙ ap whole (e c ∙ sym (sum-suc (entries net c) r)) }

      go : (q : Bool) → is_bearing net.shape r ≡ q → Counted n (up_to (suc r)) (cond q (add_bearing net.ends r (sums_of net) ts) (add_direction net.ends r (sums_of net) ts))
      go true e =
          summed _ _
          (count_set n (up_to r) ts a (bearing_enters net r) _ (N.links.ends.camera r l) (λ c. let s = small_r c in omega arith) C
          (turned (lt (point_weight net b) tiny) _ _))
          (λ c. rw e)
      go false e =
          let D = count_set n (up_to r) ts a true _ (N.links.ends.camera r l) (λ c. let s = small_r c in omega arith) C refl in
          summed _ _
          (count_set n _ _ b true _ (N.links.ends.target r (ltb-false _ _ e) l) (λ c. let s = small_r c in let k = from_bool-most (eqb a c) in omega arith) D refl)
          (λ c. rw e (omega arith))

  start-counted : Counted n (up_to 0) (field n (λ c. no_term))
  unfolding of_bits of_int
  start-counted = record {
    size = length-field n (λ c. no_term);
    count = λ c h. ap (λ (t : CameraTerm). t.count) (get_or-field n (λ (c : ℕ). no_term) c no_term h) ∙ ap whole (sym (sum-none (entries net c)));
  }

  terms-counted : Counted n (row_count net) (terms net)
  unfolding assemble_rows row_count
  terms-counted = upto-invariant (λ k ts. Counted n (up_to k) ts) (λ r. assemble_row net.shape net.ends r (sums_of net)) (rows net.shape) _ row-counted start-counted

  -- ---- the sum of the counts: each row enters at its ends, whichever cameras these are

  bearing-entries : (r : ℕ) → r < net.shape.bearings → sum_below (λ c. entries net c r) n ≡ from_bool (bearing_enters net r)
  unfolding entries
  bearing-entries r l = rw (lt-ltb _ _ l) (go (bearing_enters net r))
    where
      go : (b : Bool) → sum_below (λ c. from_bool (b && eqb (first_end net.ends r) c)) n ≡ from_bool b
      go true = sum_one (first_end net.ends r) n (N.links.ends.camera r (omega arith))
      go false = sum_zeros n

  direction-entries : (r : ℕ) → net.shape.bearings ≤ r → r < rows net.shape → sum_below (λ c. entries net c r) n ≡ 2
  unfolding entries
  direction-entries r b l =
      rw (le-ltb _ _ b)
      (sum-add (λ c. from_bool (eqb (first_end net.ends r) c)) (λ c. from_bool (eqb (second_end net.ends r) c)) n
      ∙ ap₂ ◌+◌ (sum_one _ n (N.links.ends.camera r l)) (sum_one _ n (N.links.ends.target r b l)))

  counts-sum : sum_below (row_count net) n ≡ count_below (bearing_enters net) net.shape.bearings + 2 * net.shape.directions
  unfolding row_count count_below
  counts-sum =
      let B = net.shape.bearings in
      let E = net.shape.directions in
      let g : ℕ → ℕ = λ r. sum_below (λ c. entries net c r) n in
      sum-swap (entries net) n (B + E)
      ∙ sum-split g B E
      ∙ ap₂ ◌+◌ (sum-ext g (λ r. from_bool (bearing_enters net r)) B bearing-entries)
      (sum-ext (λ i. g (B + i)) (λ i. 2) E (λ i l. direction-entries (B + i) (omega arith) (omega arith)) ∙ sum_same 2 E)

  -- ---- how many are under 2

  row_count-small : (c : ℕ) → row_count net c ≤ 1000000
  unfolding row_count
  row_count-small c = let h = up_to-small (rows net.shape) c (omega arith) in omega arith

  -- in the terms, and in the network
  pub few-counted : few_in (terms net) n ≡ few net
  unfolding few_in few of_bits
  few-counted =
      count-ext _ _ n (λ c h. rw (terms-counted.count c h) (lt-of-whole binary64 (row_count net c) 2 two (small _ (row_count-small c)) (refl, refl)))

pub row_counts : RowCounts
row_counts = record {
  exact = λ net e. (terms-counted net (tests-sound net e)).count;
  sum = λ net e. counts-sum net (tests-sound net e);
}
