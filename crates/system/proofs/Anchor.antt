-- The anchor as a search finds it: the greatest degree so far, kept at its first camera. Assumes nothing.
use Rattle.std.proofs.Common.{None, Option, Some}
use mathlib.Core.Path.{◌≡◌, refl, sym, ◌∙◌}
use mathlib.Core.Logic.{◌⊎◌, inl, inr, ⊎_elim}
use mathlib.Core.List.{List}
use mathlib.Core.Bool.{Bool, true, false, cond, ◌&&◌, true≢false}
use Prim.Native.Nat.{ℕ, ◌+◌, ◌<◌, ◌≤◌}
use native.Mathlib.Omega.{arith}
use borrow.Author.Count.{below_more}
use lib.Ieee.{Float, lt}
use Rattle.field.specs.Count.{lowest}
use Rattle.field.proofs.Counting.{lowest-none, lowest-is, none_of, found}
use Rattle.std.specs.Option.{is_none}
use Rattle.network.specs.Lists.{none}
use Rattle.network.proofs.PointLists.{each_none}
use Rattle.system.specs.declared.assembly.Best.{Best}
use Rattle.system.specs.declared.CameraTerm.{CameraTerm}
use Rattle.system.specs.System.{minus_one, degree_at, greatest, or_zero, anchor_of}
use Rattle.double.proofs.Less.{lt-irreflexive, lt-numbers, lt-past, lt_trans}

-- ---- none

some-none : (p : ℕ → Bool) (n k : ℕ) → k < n → p k ≡ true → none p n ≡ false
unfolding none
some-none p n k h t = go (lowest p n) refl
  where
    go : (r : Option ℕ) → lowest p n ≡ r → is_none r ≡ false
    go (Some i) e = refl
    go None e = absurd (true≢false (sym t ∙ none_of p n e k h))

and-false : (a b : Bool) → (a ≡ true → b ≡ false) → (a && b) ≡ false
and-false true b h = h refl
and-false false b h = refl

-- ---- the search

-- Of the first i cameras none has a degree above `best`, and those before a that count have one below it;
-- `best` is a's degree, or still -1.
pub record Leads (ts : List CameraTerm) (i : ℕ) (best : Float) (a : ℕ) : Type 0 where
  pub most : (k : ℕ) → k < i → lt best (degree_at ts k) ≡ false
  pub first : (k : ℕ) → k < a → lt minus_one (degree_at ts k) ≡ true → lt (degree_at ts k) best ≡ true
  pub from : ((best ≡ minus_one) × (a ≡ 0)) ⊎ ((best ≡ degree_at ts a) × (a < i) × (lt minus_one best ≡ true))

module _ (ts : List CameraTerm) where
  best-start : Leads ts 0 minus_one 0
  best-start = record { most = λ k l. absurd (omega arith); first = λ k l. absurd (omega arith); from = inl (refl, refl) }

  best-left : (i : ℕ) (best : Float) (a : ℕ) → Leads ts i best a → lt best (degree_at ts i) ≡ false → Leads ts (i + 1) best a
  best-left i best a b h = record {
    most = below_more _ i b.most h;
    first = b.first;
    from = ⊎_elim (λ w. inl w) (λ w. inr (w.0, omega (arith, w.1), w.2)) b.from;
  }

  best-taken : (i : ℕ) (best : Float) (a : ℕ) → Leads ts i best a → lt best (degree_at ts i) ≡ true → Leads ts (i + 1) (degree_at ts i) i
  best-taken i best a b h = record {
    most = below_more _ i (λ k l. less k l (lt (degree_at ts i) (degree_at ts k)) refl) (lt-irreflexive (degree_at ts i));
    first = λ k l t. lt-past best (degree_at ts k) (degree_at ts i) h (lt-numbers minus_one (degree_at ts k) t).1 (b.most k l);
    from = inr (refl, omega arith, ⊎_elim (λ w. rw w.0 at h) (λ w. lt_trans minus_one best (degree_at ts i) w.2 h) b.from);
  }
    where
      less : (k : ℕ) → k < i → (q : Bool) → lt (degree_at ts i) (degree_at ts k) ≡ q → q ≡ false
      less k l true e = absurd (true≢false (sym (lt_trans best (degree_at ts i) (degree_at ts k) h e) ∙ b.most k l))
      less k l false e = refl

  -- in the code's loop: the best of the first i cameras
  abbrev pub Best-of : ℕ → Best → Type 0
  Best-of i b = Leads ts i b.degree b.camera

  pub best_none : Best-of 0 (record { camera = 0; degree = minus_one })
  best_none = best-start

  pub best-more : (i : ℕ) (b b' : Best) (d : Float) → d ≡ degree_at ts i → Best-of i b → b' ≡ cond (lt b.degree d) (record { camera = i; degree = d }) b → Best-of (i + 1) b'
  best-more i b b' d e h k = go (lt b.degree d) refl k
    where
      go : (q : Bool) → lt b.degree d ≡ q → b' ≡ cond q (record { camera = i; degree = d }) b → Best-of (i + 1) b'
      go true t f = rw (f, e) (best-taken i b.degree b.camera h (rw e at t))
      go false t f = rw f (best-left i b.degree b.camera h (rw e at t))

  -- whose degree exceeds that of camera c
  over : ℕ → ℕ → Bool
  over c k = lt (degree_at ts c) (degree_at ts k)

  none-greatest : (n c : ℕ) → (lt minus_one (degree_at ts c) ≡ true → none (over c) n ≡ false) → greatest ts n c ≡ false
  unfolding greatest over
  none-greatest n c h = and-false (lt minus_one (degree_at ts c)) (none (over c) n) h

  is-greatest : (n c : ℕ) → lt minus_one (degree_at ts c) ≡ true → none (over c) n ≡ true → greatest ts n c ≡ true
  unfolding greatest over
  is-greatest n c t h = rw t h

  best-anchor : (n : ℕ) (best : Float) (a : ℕ) → Leads ts n best a → a ≡ anchor_of ts n
  unfolding anchor_of over
  best-anchor n best a b = ⊎_elim idle chosen b.from
    where
      idle : (best ≡ minus_one) × (a ≡ 0) → a ≡ or_zero (lowest (greatest ts n) n)
      idle w =
          let e : lowest (greatest ts n) n ≡ None = lowest-none _ n (λ k l. none-greatest n k (λ t. absurd (true≢false (sym t ∙ (rw w.0 at (b.most k l)))))) in
          rw e w.1

      chosen : (best ≡ degree_at ts a) × (a < n) × (lt minus_one best ≡ true) → a ≡ or_zero (lowest (greatest ts n) n)
      chosen w =
          let t : greatest ts n a ≡ true = is-greatest n a (rw w.0 at w.2) (each_none _ n (λ k l. rw w.0 at (b.most k l))) in
          let e : lowest (greatest ts n) n ≡ Some a =
          lowest-is _ a n t w.1 (λ k l. none-greatest n k (λ u. some-none _ n a w.1 (rw w.0 at (b.first k l u)))) in
          rw e

-- the best of all
pub best-ended : (ts : List CameraTerm) (i n : ℕ) (b : Best) → Best-of ts i b → (i ≤ n) → (n ≤ i) → b.camera ≡ anchor_of ts n
best-ended ts i n b h j k = let e : i ≡ n = omega arith in best-anchor ts n b.degree b.camera (rw e at h)

-- the anchor is a camera
pub anchor-below : (ts : List CameraTerm) (n : ℕ) → 0 < n → anchor_of ts n < n
unfolding anchor_of
anchor-below ts n h = go (lowest (greatest ts n) n) refl
  where
    go : (r : Option ℕ) → lowest (greatest ts n) n ≡ r → or_zero r < n
    go (Some i) e = (found (greatest ts n) n i e).1
    go None e = h
