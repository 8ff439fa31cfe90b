-- Sums over the cameras but the anchor, seen on an axis. Assumes nothing.
use mathlib.Core.Path.{◌≡◌, refl, sym, ap, ◌∙◌}
use mathlib.Core.Bool.{Bool, true, false, cond, not}
use mathlib.Core.Logic.{⊎_elim}
use mathlib.Core.List.{List}
use Prim.Native.Nat.{ℕ, suc, zero, ◌+◌, ◌<◌}
use native.Mathlib.Numerals.{add-one}
use Rattle.std.proofs.Common.{None, Option, Some}
use Rattle.std.specs.Prelude.{unwrap_or}
use Rattle.std.proofs.lemmas.Bool.{true≢false}
use native.Mathlib.Omega.{arith}
use native.Mathlib.Nat.{eq-or-lt_of_le, le_of_suc-le-suc}
use borrow.Author.Tests.{eq-eqb, eqb-true, eqb-false, not-false}
use lib.Dec.{eqb}
use lib.Ieee.{Float, binary64, add, mul, of_bits, is_nan}
use lib.Ieee.Scale.{finite}
use Rattle.field.specs.declared.Vec3.{Vec3}
use Rattle.field.specs.Vec.{Axis, at, on, null, origin, plus}
use Rattle.field.specs.Count.{lowest, upto}
use Rattle.field.proofs.Vectors.{on-each, on-plus, on-origin}
use Rattle.field.proofs.Counting.{found, lowest-found, lowest-more, lowest-zero, none_of, upto-map, upto-invariant, upto-suc, upto_zero}
use Rattle.double.specs.Sums.{unsigned}
use Rattle.double.proofs.Finite.{finite-add, finite-mul, unsigned-add, unsigned-square}
use Rattle.iterative.specs.CameraSums.{FirstNotFinite}
use Rattle.iterative.specs.Problem.{times, dot_step, field_dot, first_not_finite, not_finite_after}

pub on-times : (k : Axis) (a b : Vec3) → on k (times a b) ≡ mul binary64 (on k a) (on k b)
unfolding times
on-times k a b = on-each k (λ j. mul binary64 (on j a) (on j b))

-- ---- z + g 0 + g 1 + .. without g a

abbrev pub skip : ℕ → (ℕ → Float) → ℕ → Float → Float
skip a g i s = cond (eqb i a) s (add binary64 s (g i))

-- a sum that ends finite had only finite terms
abbrev FiniteTerms : ℕ → (ℕ → Float) → ℕ → Type 0
FiniteTerms a g n = (i : ℕ) → i < n → (i ≡ a → ⊥) → finite (g i) ≡ true

finite-more : (a : ℕ) (g : ℕ → Float) (n : ℕ) (s : Float) (b : Bool) → eqb n a ≡ b → (finite s ≡ true → FiniteTerms a g n) → finite (cond b s (add binary64 s (g n))) ≡ true → FiniteTerms a g (suc n)
finite-more a g n s true q t e i h d =
    ⊎_elim (λ (c : i ≡ n). absurd (d (c ∙ eqb-true n a q))) (λ (l : i < n). t e i l d) (eq-or-lt_of_le (le_of_suc-le-suc h))
finite-more a g n s false q t e i h d =
    let w = finite-add binary64 s (g n) e in
    ⊎_elim (λ (c : i ≡ n). rw c w.1) (λ (l : i < n). t w.0 i l d) (eq-or-lt_of_le (le_of_suc-le-suc h))

finite-skip : (a : ℕ) (g : ℕ → Float) (n : ℕ) (z : Float) → finite (upto (skip a g) n z) ≡ true → FiniteTerms a g n
finite-skip a g n z =
    upto-invariant (λ k s. finite s ≡ true → FiniteTerms a g k) (skip a g) n z (λ k s l t. finite-more a g k s (eqb k a) refl t) (λ e i h d. absurd (omega arith))

-- a sum of terms that are neither NaN nor of negative sign is neither
unsigned-more : (a : ℕ) (g : ℕ → Float) (n : ℕ) (s : Float) (b : Bool) → eqb n a ≡ b → ((n ≡ a → ⊥) → unsigned (g n) ≡ true) → unsigned s ≡ true → unsigned (cond b s (add binary64 s (g n))) ≡ true
unsigned-more a g n s true q t e = e
unsigned-more a g n s false q t e = unsigned-add binary64 s (g n) e (t (eqb-false n a q))

unsigned-skip : (a : ℕ) (g : ℕ → Float) (n : ℕ) (z : Float) → unsigned z ≡ true → ((i : ℕ) → i < n → (i ≡ a → ⊥) → unsigned (g i) ≡ true) → unsigned (upto (skip a g) n z) ≡ true
unsigned-skip a g n z e t = upto-invariant (λ k s. unsigned s ≡ true) (skip a g) n z (λ k s l. unsigned-more a g k s (eqb k a) refl (t k l)) e

-- ---- the sum of products, on an axis

module _ (k : Axis) (a : ℕ) (f g : List Vec3) where
  abbrev product : ℕ → Float
  product i = mul binary64 (on k (at f i)) (on k (at g i))

  on_step : (i : ℕ) (v : Vec3) → on k (dot_step a f g i v) ≡ skip a product i (on k v)
  unfolding dot_step
  on_step i v = go (eqb i a)
    where
      go : (b : Bool) → on k (cond b v (plus v (times (at f i) (at g i)))) ≡ cond b (on k v) (add binary64 (on k v) (product i))
      go true = refl
      go false = on-plus k v (times (at f i) (at g i)) ∙ ap (add binary64 (on k v)) (on-times k (at f i) (at g i))

  on-dot : (n : ℕ) → on k (field_dot n a f g) ≡ upto (skip a product) n null
  unfolding field_dot
  on-dot n = upto-map (on k) (dot_step a f g) (skip a product) n origin (λ i v l. on_step i v) ∙ ap (upto (skip a product) n) (on-origin k)

  -- where the sum is finite, so is each entry that it is made of
  pub finite-dot : (n : ℕ) → finite (on k (field_dot n a f g)) ≡ true → (i : ℕ) → i < n → (i ≡ a → ⊥) → (finite (on k (at f i)) ≡ true) × (finite (on k (at g i)) ≡ true)
  finite-dot n e i l d = finite-mul binary64 (on k (at f i)) (on k (at g i)) (finite-skip a product n null (sym (ap finite (on-dot n)) ∙ e) i l d)

-- a sum of squares is a NaN only where an entry is one
pub unsigned-squares : (k : Axis) (n a : ℕ) (f : List Vec3) → ((i : ℕ) → i < n → (i ≡ a → ⊥) → is_nan (on k (at f i)) ≡ false) → unsigned (on k (field_dot n a f f)) ≡ true
unfolding of_bits
unsigned-squares k n a f h = ap unsigned (on-dot k a f f n) ∙ unsigned-skip a (product k a f f) n null refl (λ i l d. unsigned-square binary64 (on k (at f i)) (h i l d))

-- ---- the first camera at which component k of the running sum is not finite

module _ (a : ℕ) (f g : List Vec3) (k : Axis) where
  abbrev over : ℕ → Bool
  over = not_finite_after a f g k

  over-is : (i : ℕ) (s : Vec3) (b : Bool) → s ≡ upto (dot_step a f g) (i + 1) origin → b ≡ finite (on k s) → over i ≡ not b
  unfolding not_finite_after field_dot
  over-is i s b e q = rw (q, e) refl

  -- a search from camera 0 on, whose sum with camera i's products is s: it goes on, is over, or found none
  module _ (i : ℕ) (s : Vec3) (b : Bool) (e : s ≡ upto (dot_step a f g) (i + 1) origin) (q : b ≡ finite (on k s)) (before : lowest over i ≡ None) where
    pub camera-more : b ≡ true → lowest over (i + 1) ≡ None
    camera-more t = rw add-one (lowest-more over i before (over-is i s b e q ∙ rw t refl))

    pub camera-found : (n : ℕ) → i < n → b ≡ false → i ≡ first_not_finite n a f g k
    unfolding first_not_finite
    camera-found n l t = rw (lowest-found over i n before (over-is i s b e q ∙ rw t refl) l) refl

  pub camera-stayed : (n : ℕ) → lowest over n ≡ None → n ≡ first_not_finite n a f g k
  unfolding first_not_finite
  camera-stayed n h = rw h refl

  -- ---- what the camera says of the sum

  sum-none : finite (on k (field_dot 0 a f g)) ≡ true
  unfolding field_dot of_bits
  sum-none = ap finite (ap (on k) (upto_zero (dot_step a f g) origin) ∙ on-origin k)

  sum-more : (i : ℕ) → on k (field_dot (suc i) a f g) ≡ skip a (product k a f g) i (on k (field_dot i a f g))
  unfolding field_dot
  sum-more i = ap (on k) (upto-suc (dot_step a f g) i origin) ∙ on_step k a f g i _

  sum-anchor : on k (field_dot (suc a) a f g) ≡ on k (field_dot a a f g)
  sum-anchor = sum-more a ∙ rw (eq-eqb a a refl) refl

  sum-before : (i : ℕ) → finite (on k (field_dot (suc i) a f g)) ≡ true → finite (on k (field_dot i a f g)) ≡ true
  sum-before i e = go (eqb i a) (sym (ap finite (sum-more i)) ∙ e)
    where
      go : (b : Bool) → finite (cond b (on k (field_dot i a f g)) (add binary64 (on k (field_dot i a f g)) (product k a f g i))) ≡ true → finite (on k (field_dot i a f g)) ≡ true
      go true h = h
      go false h = (finite-add binary64 _ _ h).0

  over-none : (n : ℕ) → finite (on k (field_dot n a f g)) ≡ true → lowest over n ≡ None
  unfolding not_finite_after
  over-none zero e = lowest-zero over
  over-none (suc n) e = lowest-more over n (over-none n (sum-before n e)) (rw (add-one, e) refl)

  finite-until : (i : ℕ) → ((j : ℕ) → j < i → over j ≡ false) → finite (on k (field_dot i a f g)) ≡ true
  unfolding not_finite_after
  finite-until zero h = sum-none
  finite-until (suc j) h = let e = not-false _ (h j (omega arith)) in rw add-one at e

  stopped-below : (n : ℕ) → finite (on k (field_dot n a f g)) ≡ false → (r : Option ℕ) → lowest over n ≡ r → unwrap_or r n < n
  unfolding not_finite_after
  stopped-below n e (Some i) q = (found over n i q).1
  stopped-below n e None q = absurd (true≢false (sym (finite-until n (none_of over n q)) ∙ e))

  over-anchor : finite (on k (field_dot a a f g)) ≡ true → over a ≡ false
  unfolding not_finite_after
  over-anchor e = rw (add-one, sum-anchor, e) refl

  anchor-left : (n : ℕ) → a < n → (r : Option ℕ) → lowest over n ≡ r → unwrap_or r n ≡ a → ⊥
  anchor-left n l None q e = omega (arith, l, e)
  anchor-left n l (Some i) q e =
      let F = found over n a (q ∙ ap Some e) in
      true≢false (sym F.0 ∙ over-anchor (finite-until a F.2))

  pub first-not-finite : (n : ℕ) → FirstNotFinite n a f g k
  unfolding first_not_finite
  first-not-finite n = record {
    all_finite = λ e. sym (camera-stayed n (over-none n e));
    below = λ e. stopped-below n e (lowest over n) refl;
    not_anchor = λ l e. anchor-left n l (lowest over n) refl e;
  }
