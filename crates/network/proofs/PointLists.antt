-- How the lists are tested (specs/inner/Marks) and refusal 6 come to the same. Places that are fit one after another name bearings, none of them
-- twice; and B different mentions leave none of B rows out. Assumes nothing.
use Rattle.std.proofs.Common.{None, Option, Some}
use mathlib.Core.Path.{◌≡◌, refl, sym, ap, ap₂, ◌∙◌}
use mathlib.Core.Logic.{⊎_elim, dite}
use mathlib.Core.List.{List}
use mathlib.Core.Bool.{Bool, true, false, not, ◌&&◌, ◌||◌, true≢false}
use Prim.Native.Nat.{ℕ, zero, suc, ◌+◌, ◌-◌, ◌*◌, ◌≤◌, ◌<◌}
use native.Mathlib.Nat.{eq-or-lt_of_le, le_of_suc-le-suc}
use native.Mathlib.Numerals.{add-one}
use native.Mathlib.Decide.{dec_lt}
use native.Mathlib.Omega.{arith}
use lib.ListN.{get_or, length}
use lib.Dec.{eqb, leb}
use borrow.Author.Tests.{ltb-false, leb-false, eqb-true, not-false, not-true, lt-leb, eq-eqb, ne_eqb}
use Rattle.std.specs.Int.{from_bool}
use Rattle.field.specs.Count.{count_below, sum_below}
use Rattle.field.proofs.Counting.{lowest-none, none_of}
use Rattle.field.proofs.Sums.{count-grows, count-more, count_none, sum-ext, sum-full, sum_one, sum_same, sum-swap}
use Rattle.std.specs.Option.{is_none}
use Rattle.network.specs.Lists.{none, falls, offsets_rise, misplaced, has_misplaced, named, miscounted, lists_hold}
use Rattle.double.proofs.Truth.{both_true, neither}
use Rattle.network.specs.Network.{second_end}
use Rattle.network.specs.inner.Marks.{has_unfit, unfit}
use Rattle.network.specs.inner.Sound.{OffsetsSound}

-- ---- none

none-from_test : (p : Option ℕ) → is_none p ≡ true → p ≡ None
none-from_test (Some i) e = absurd (let z : ◌≡◌ {A = ℕ} 0 1 = cc in omega arith)
none-from_test None e = refl

pub none_each : (p : ℕ → Bool) (n : ℕ) → none p n ≡ true → (k : ℕ) → k < n → p k ≡ false
unfolding none
none_each p n e = none_of p n (none-from_test _ e)

pub each_none : (p : ℕ → Bool) (n : ℕ) → ((k : ℕ) → k < n → p k ≡ false) → none p n ≡ true
unfolding none
each_none p n h = ap is_none (lowest-none p n h)

-- a loop that looks for one: before it starts, where place i has not the property, and where it has
pub none-zero : (p : ℕ → Bool) → none p 0 ≡ true
none-zero p = each_none p 0 (λ k l. absurd (omega arith))

pub none_more : (p : ℕ → Bool) (i : ℕ) {x : Bool} → none p i ≡ true → x ≡ not (p i) → not x ≡ false → none p (i + 1) ≡ true
none_more p i e f g =
    each_none p (i + 1) (λ k l.
    ⊎_elim
    (λ (q : k ≡ i). rw q (not-true _ (sym f ∙ not-false _ g)))
    (λ (m : k < i). none_each p i e k m)
    (eq-or-lt_of_le (le_of_suc-le-suc (rw add-one at l))))

pub none-not : (p : ℕ → Bool) (i n : ℕ) {x : Bool} → x ≡ not (p i) → not x ≡ true → i < n → false ≡ none p n
none-not p i n f g l = go (none p n) refl
  where
    go : (t : Bool) → none p n ≡ t → false ≡ t
    go true e = absurd (true≢false (sym (not-false _ (sym f ∙ not-true _ g)) ∙ none_each p n e i l))
    go false e = refl

-- ---- how often a row is named

module _ (listed : List ℕ) where
  pub named-zero : (r : ℕ) → named listed r 0 ≡ 0
  unfolding named
  named-zero r = count_none (λ k. eqb (get_or listed k 0) r)

  named_more : (r n : ℕ) → named listed r (n + 1) ≡ named listed r n + from_bool (eqb (get_or listed n 0) r)
  unfolding named
  named_more r n = sym (count-more (λ k. eqb (get_or listed k 0) r) n _ _ refl refl)

  pub named_here : (n : ℕ) → named listed (get_or listed n 0) (n + 1) ≡ named listed (get_or listed n 0) n + 1
  named_here n = named_more (get_or listed n 0) n ∙ rw (eq-eqb (get_or listed n 0) (get_or listed n 0) refl)

  pub named_other : (r n : ℕ) → (r ≡ get_or listed n 0 → ⊥) → named listed r (n + 1) ≡ named listed r n
  named_other r n h =
      let e = named_more r n in
      let f = ne_eqb (get_or listed n 0) r (λ q. h (sym q)) in
      let z : named listed r (n + 1) ≡ named listed r n + 0 = rw f at e in
      omega arith

  -- n places that name rows below b name n rows
  sum-named : (b n : ℕ) → ((k : ℕ) → k < n → get_or listed k 0 < b) → sum_below (λ r. named listed r n) b ≡ n
  unfolding named count_below
  sum-named b n h =
      sum-swap (λ r k. from_bool (eqb (get_or listed k 0) r)) b n
      ∙ sum-ext _ (λ k. 1) n (λ k l. sum_one (get_or listed k 0) b (h k l))
      ∙ sum_same 1 n
      ∙ (let e : 1 * n ≡ n = omega arith in e)

  -- places whose row was not named before name none twice
  named-most : (r n : ℕ) → ((k : ℕ) → k < n → named listed (get_or listed k 0) k ≡ 0) → named listed r n ≤ 1
  named-most r zero h = let e = named-zero r in omega arith
  named-most r (suc n) h = rw (← add-one n, named_more r n) (go (eqb (get_or listed n 0) r) refl (named-most r n (λ k l. h k (omega arith))))
    where
      go : (t : Bool) → eqb (get_or listed n 0) r ≡ t → named listed r n ≤ 1 → named listed r n + from_bool t ≤ 1
      go true e m = let z : named listed r n ≡ 0 = sym (ap (λ t. named listed t n) (eqb-true (get_or listed n 0) r e)) ∙ h n (omega arith) in omega arith
      go false e m = omega arith

  -- B different mentions of B rows leave none out
  pub named-once : (b : ℕ) → ((k : ℕ) → k < b → get_or listed k 0 < b) → ((k : ℕ) → k < b → named listed (get_or listed k 0) k ≡ 0) → (r : ℕ) → r < b → named listed r b ≡ 1
  named-once b below fresh = sum-full (λ r. named listed r b) b (λ r. named-most r b fresh) (sum-named b b below)

  -- where each row is named once, a place's row was not named before it
  named-first : (b k : ℕ) → named listed (get_or listed k 0) b ≡ 1 → k < b → named listed (get_or listed k 0) k ≡ 0
  unfolding named
  named-first b k e l =
      let a = named_here k in
      let g = count-grows (λ j. eqb (get_or listed j 0) (get_or listed k 0)) (k + 1) b (omega arith) in
      omega arith

  -- a row that is named stands at some place
  pub named_some : (r n : ℕ) → 0 < named listed r n → (k : ℕ) × (k < n) × (get_or listed k 0 ≡ r)
  named_some r zero h = absurd (let e = named-zero r in omega arith)
  named_some r (suc n) h = go (eqb (get_or listed n 0) r) refl (rw (← add-one n, named_more r n) at h) (named_some r n)
    where
      go : (t : Bool) → eqb (get_or listed n 0) r ≡ t → 0 < named listed r n + from_bool t → (0 < named listed r n → (k : ℕ) × (k < n) × (get_or listed k 0 ≡ r)) →
          (k : ℕ) × (k < suc n) × (get_or listed k 0 ≡ r)
      go true e h f = (n, omega arith, eqb-true _ _ e)
      go false e h f = let u = f (omega arith) in (u.0, omega (arith, u.1), u.2)

-- ---- the offsets

-- offsets that never fall
climbs : (offsets : List ℕ) (m : ℕ) → ((p : ℕ) → p < m → get_or offsets p 0 ≤ get_or offsets (p + 1) 0) → (p : ℕ) → p ≤ m → get_or offsets p 0 ≤ get_or offsets m 0
climbs offsets zero h p l = let e : p ≡ 0 = omega arith in rw e (omega arith)
climbs offsets (suc m) h p l =
    ⊎_elim
    (λ (q : p ≡ suc m). rw q (omega arith))
    (λ (k : p < suc m).
    let a : get_or offsets p 0 ≤ get_or offsets m 0 = climbs offsets m (λ q n. h q (omega arith)) p (omega arith) in
    let b : get_or offsets m 0 ≤ get_or offsets (suc m) 0 = rw add-one at (h m (omega arith)) in
    omega arith)
    (eq-or-lt_of_le l)

rising : (offsets : List ℕ) (p : ℕ) → falls offsets p ≡ false → get_or offsets p 0 ≤ get_or offsets (p + 1) 0
unfolding falls
rising offsets p e = ltb-false _ _ e

pub offsets-sound : (m b : ℕ) (offsets : List ℕ) → length offsets ≡ m + 1 → offsets_rise m b offsets ≡ true → OffsetsSound m b offsets
unfolding offsets_rise
offsets-sound m b offsets size e =
    let h = both_true _ _ e in
    let k = both_true _ _ h.1 in
    let end : get_or offsets m 0 ≡ b = eqb-true _ _ k.0 in
    let rises : (p : ℕ) → p < m → get_or offsets p 0 ≤ get_or offsets (p + 1) 0 = λ p l. rising offsets p (none_each _ m k.1 p l) in
    record { size = size; start = eqb-true _ _ h.0; end = end; rises = rises; within = λ p l. rw end at (climbs offsets m rises p l) }

-- k lies between two neighbours of f 0, f 1, .. f m
pub locate : (f : ℕ → ℕ) (m k : ℕ) → f 0 ≡ 0 → k < f m → (p : ℕ) × (p < m) × (f p ≤ k) × (k < f (p + 1))
locate f zero k e l = absurd (omega arith)
locate f (suc m) k e l =
    dite
    (dec_lt k (f m))
    (λ (h : k < f m). let u = locate f m k e h in (u.0, omega (arith, u.1), u.2, u.3))
    (λ (h : k < f m → ⊥). (m, omega arith, omega arith, rw add-one l))

-- ---- place k of the lists, under point p

not-not : (x : Bool) → x ≡ not (not x)
not-not true = refl
not-not false = refl

pub list-fit : (b : ℕ) (ends offsets listed : List ℕ) (p : ℕ) {x : Bool} → x ≡ none (λ i. unfit b ends listed p (get_or offsets p 0 + i)) (get_or offsets (p + 1) 0 - get_or offsets p 0) →
    x ≡ not (has_unfit b ends offsets listed p)
unfolding has_unfit
list-fit b ends offsets listed p e = e ∙ not-not _

fit_parts : (b : ℕ) (ends listed : List ℕ) (p k : ℕ) → unfit b ends listed p k ≡ false →
    (leb b (get_or listed k 0) ≡ false) × (not (eqb (second_end ends (get_or listed k 0)) p) ≡ false) × (named listed (get_or listed k 0) k ≡ 0)
unfolding unfit
fit_parts b ends listed p k e =
    let u = neither (leb b (get_or listed k 0)) (not (eqb (second_end ends (get_or listed k 0)) p) || not (eqb (named listed (get_or listed k 0) k) 0)) e in
    let v = neither (not (eqb (second_end ends (get_or listed k 0)) p)) _ u.1 in
    (u.0, v.0, eqb-true _ _ (not-false _ v.1))

module _ (m b : ℕ) (ends offsets listed : List ℕ) (o : OffsetsSound m b offsets) where
  under-point : (k : ℕ) → k < b → (p : ℕ) × (p < m) × (get_or offsets p 0 ≤ k) × (k < get_or offsets (p + 1) 0)
  under-point k l = locate (λ p. get_or offsets p 0) m k o.start (rw o.end l)

  module _ (x : none (has_misplaced b ends offsets listed) m ≡ true) where
    well-placed : (p i : ℕ) → p < m → i < get_or offsets (p + 1) 0 - get_or offsets p 0 → misplaced b ends listed p (get_or offsets p 0) i ≡ false
    unfolding has_misplaced
    well-placed p i l h = none_each _ _ (not-false _ (none_each _ m x p l)) i h

    at_place : (p k : ℕ) → p < m → get_or offsets p 0 ≤ k → k < get_or offsets (p + 1) 0 → (get_or listed k 0 < b) × (get_or ends (2 * get_or listed k 0 + 1) 0 ≡ p)
    unfolding misplaced
    at_place p k l f g =
        let e : get_or offsets p 0 + (k - get_or offsets p 0) ≡ k = omega arith in
        let h = neither _ _ (rw e at (well-placed p (k - get_or offsets p 0) l (omega arith))) in
        (leb-false _ _ h.0, eqb-true _ _ (not-false _ h.1))

    pub own-point : (p k : ℕ) → p < m → get_or offsets p 0 ≤ k → k < get_or offsets (p + 1) 0 → get_or ends (2 * get_or listed k 0 + 1) 0 ≡ p
    own-point p k l f g = (at_place p k l f g).1

    pub is-bearing : (k : ℕ) → k < b → get_or listed k 0 < b
    is-bearing k l = let u = under-point k l in (at_place u.0 k u.1 u.2 u.3).0

  pub once : none (miscounted b listed) b ≡ true → (r : ℕ) → r < b → named listed r b ≡ 1
  unfolding miscounted
  once y r l = eqb-true _ _ (not-false _ (none_each _ b y r l))

  -- ---- the test place by place is the rule

  fits : none (has_misplaced b ends offsets listed) m ≡ true → none (miscounted b listed) b ≡ true → none (has_unfit b ends offsets listed) m ≡ true
  unfolding has_unfit unfit
  fits x y = each_none _ m (λ p l. ap not (each_none _ _ (λ i h.
      let in' : get_or offsets p 0 + i < b = omega (arith, o.rises p l, o.within (p + 1) (omega arith)) in
      let u = at_place x p (get_or offsets p 0 + i) l (omega arith) (omega arith) in
      let z = named-first listed b (get_or offsets p 0 + i) (once y _ u.0) in' in
      rw (lt-leb _ _ u.0, eq-eqb _ _ u.1, eq-eqb _ _ z))))

  module _ (t : none (has_unfit b ends offsets listed) m ≡ true) where
    fit : (p i : ℕ) → p < m → i < get_or offsets (p + 1) 0 - get_or offsets p 0 → unfit b ends listed p (get_or offsets p 0 + i) ≡ false
    unfolding has_unfit
    fit p i l h = none_each _ _ (not-false _ (none_each _ m t p l)) i h

    fit-placed : none (has_misplaced b ends offsets listed) m ≡ true
    unfolding has_misplaced misplaced
    fit-placed = each_none _ m (λ p l. ap not (each_none _ _ (λ i h.
        let u = fit_parts b ends listed p (get_or offsets p 0 + i) (fit p i l h) in
        ap₂ ◌||◌ u.0 u.1)))

    fresh : (k : ℕ) → k < b → named listed (get_or listed k 0) k ≡ 0
    fresh k l =
        let q = under-point k l in
        let e : get_or offsets q.0 0 + (k - get_or offsets q.0 0) ≡ k = omega (arith, q.2) in
        (fit_parts b ends listed q.0 k (rw e at (fit q.0 (k - get_or offsets q.0 0) q.1 (omega (arith, q.2, q.3))))).2

    fit-counted : none (miscounted b listed) b ≡ true
    unfolding miscounted
    fit-counted = each_none _ b (λ r l. ap not (eq-eqb _ _ (named-once listed b (is-bearing fit-placed) fresh r l)))

  rule : none (has_unfit b ends offsets listed) m ≡ (none (has_misplaced b ends offsets listed) m && none (miscounted b listed) b)
  rule = go _ _ _ (λ t. (fit-placed t, fit-counted t)) fits
    where
      go : (x y z : Bool) → (x ≡ true → (y ≡ true) × (z ≡ true)) → (y ≡ true → z ≡ true → x ≡ true) → x ≡ (y && z)
      go true y z f g = sym (ap₂ ◌&&◌ (f refl).0 (f refl).1)
      go false true true f g = g refl refl
      go false true false f g = refl
      go false false z f g = refl

module _ (m b : ℕ) (ends offsets listed : List ℕ) (size : length offsets ≡ m + 1) where
  pub lists-parts : lists_hold m b ends offsets listed ≡ true →
      OffsetsSound m b offsets × (none (has_misplaced b ends offsets listed) m ≡ true) × (none (miscounted b listed) b ≡ true)
  unfolding lists_hold
  lists-parts e =
      let h = both_true _ _ e in
      let k = both_true _ _ h.1 in
      (offsets-sound m b offsets size h.0, k.0, k.1)

  pub offsets-rise-sound : {x : Bool} → x ≡ offsets_rise m b offsets → not x ≡ false → OffsetsSound m b offsets
  offsets-rise-sound e f = offsets-sound m b offsets size (sym e ∙ not-false _ f)

  -- the rule, where its first part is tested first
  pub lists-fall : {x : Bool} → x ≡ offsets_rise m b offsets → not x ≡ true → false ≡ lists_hold m b ends offsets listed
  unfolding lists_hold
  lists-fall e f = ap (λ t. t && (none (has_misplaced b ends offsets listed) m && none (miscounted b listed) b)) (sym (not-true _ f) ∙ e)

  pub lists-fit : {x y : Bool} → x ≡ offsets_rise m b offsets → not x ≡ false → y ≡ none (has_unfit b ends offsets listed) m → y ≡ lists_hold m b ends offsets listed
  unfolding lists_hold
  lists-fit e t h =
      h
      ∙ rule m b ends offsets listed (offsets-rise-sound e t)
      ∙ ap (λ u. u && (none (has_misplaced b ends offsets listed) m && none (miscounted b listed) b)) (sym (not-false _ t) ∙ e)
