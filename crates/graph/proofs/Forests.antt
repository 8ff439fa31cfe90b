-- Laws of roots in a parent list. Assumes nothing.
use Prim.Native.Nat.{ℕ, zero, suc, ◌≤◌, ◌<◌, min, max}
use mathlib.Core.Path.{◌≡◌, refl, sym, ap, ◌∙◌}
use mathlib.Core.Logic.{⊎_elim, ◌⊎◌, by_cases}
use mathlib.Core.List.{List}
use mathlib.Core.Bool.{cond}
use native.Mathlib.Nat.{eq-or-lt_of_le}
use native.Mathlib.Decide.{ℕ_discrete}
use native.Mathlib.Omega.{arith}
use lib.ListN.{length, set}
use lib.Seq.{get_or-set_same, get_or-set_other, set-get_or}
use lib.Dec.{eqb}
use borrow.Author.Tests.{eq-eqb, ne_eqb}
use Rattle.graph.specs.inner.Forest.{parent, Forest, climb, root_of, SameRoots, Halved, Climbed, merged, Merged}

climb-top : (p : List ℕ) (k x : ℕ) → parent p x ≡ x → climb p k x ≡ x
unfolding climb
climb-top p zero x e = refl
climb-top p (suc k) x e = rw e (climb-top p k x e)

module _ (p : List ℕ) (f : Forest p) where
  -- x is a root, or its parent is below it
  root-or-below : (x : ℕ) → (parent p x ≡ x) ⊎ (parent p x < x)
  root-or-below x = eq-or-lt_of_le (f.falls x)

  -- enough steps reach the same node as more
  climb-enough : (k l x : ℕ) → x ≤ k → x ≤ l → climb p k x ≡ climb p l x
  unfolding climb
  climb-enough zero l x h i =
      let z : parent p x ≡ x = omega (arith, f.falls x) in
      sym (climb-top p l x z)
  climb-enough (suc k) zero x h i =
      let z : parent p x ≡ x = omega (arith, f.falls x) in
      climb-top p (suc k) x z
  climb-enough (suc k) (suc l) x h i =
      ⊎_elim
      (λ (e : parent p x ≡ x). climb-top p (suc k) x e ∙ sym (climb-top p (suc l) x e))
      (λ (d : parent p x < x). climb-enough k l (parent p x) (omega arith) (omega arith))
      (root-or-below x)

  -- x's root is its parent's
  root-up : (x : ℕ) → root_of p (parent p x) ≡ root_of p x
  unfolding root_of climb
  root-up x = climb-enough (parent p x) x (parent p x) (omega arith) (f.falls x) ∙ climb-enough (suc x) x x (omega arith) (omega arith)

  pub root-top : (x : ℕ) → parent p x ≡ x → root_of p x ≡ x
  unfolding root_of
  root-top x e = climb-top p x x e

  -- what holds of the roots, and of a node if it holds of its parent below it, holds of every node
  upward : (P : ℕ → Type 0) → ((x : ℕ) → parent p x ≡ x → P x) → ((x : ℕ) → parent p x < x → P (parent p x) → P x) → (x : ℕ) → P x
  upward P top up x = go x x (omega arith)
    where
      go : (k x : ℕ) → x ≤ k → P x
      go zero x h = top x (omega (arith, f.falls x))
      go (suc k) x h =
          ⊎_elim
          (λ (e : parent p x ≡ x). top x e)
          (λ (d : parent p x < x). up x d (go k (parent p x) (omega arith)))
          (root-or-below x)

  pub root-falls : (x : ℕ) → root_of p x ≤ x
  root-falls = upward (λ x. root_of p x ≤ x) (λ x e. omega (arith, root-top x e)) (λ x d i. omega (arith, root-up x))

  -- a root is its own parent
  root-own : (x : ℕ) → parent p (root_of p x) ≡ root_of p x
  root-own = upward (λ x. parent p (root_of p x) ≡ root_of p x) (λ x e. rw (root-top x e) e) (λ x d i. rw root-up at i)

  pub root-root : (x : ℕ) → root_of p (root_of p x) ≡ root_of p x
  root-root x = root-top (root_of p x) (root-own x)

  -- the root is the only number that a root has as itself and a node from its parent
  pub root-unique : (q : ℕ → ℕ) → ((x : ℕ) → parent p x ≡ x → q x ≡ x) → ((x : ℕ) → q (parent p x) ≡ q x) → (x : ℕ) → root_of p x ≡ q x
  root-unique q top up = upward (λ x. root_of p x ≡ q x) (λ x e. root-top x e ∙ sym (top x e)) (λ x d i. sym (root-up x) ∙ i ∙ up x)

-- ---- a node that is given another parent below it

module _ (p : List ℕ) (f : Forest p) (x y : ℕ) (below : y < x) (within : x < length p) where
  link_here : parent (set p x y) x ≡ y
  link_here = get_or-set_same p x y 0 within

  link-other : (z : ℕ) → (z ≡ x → ⊥) → parent (set p x y) z ≡ parent p z
  link-other z d = get_or-set_other p x z y 0 d

  link-forest : Forest (set p x y)
  link-forest = record {
    falls = λ z. by_cases (ℕ_discrete z x) (λ (e : z ≡ x). rw e (omega (arith, link_here))) (λ (d : z ≡ x → ⊥). omega (arith, link-other z d, f.falls z));
  }

  -- the roots are as q says, if q says so of the other roots and of the other nodes and their parents, and does not tell x from y
  link-root : (q : ℕ → ℕ) → ((z : ℕ) → (z ≡ x → ⊥) → parent p z ≡ z → q z ≡ z) → ((z : ℕ) → (z ≡ x → ⊥) → q (parent p z) ≡ q z) → q y ≡ q x →
      (z : ℕ) → root_of (set p x y) z ≡ q z
  link-root q top up same =
      root-unique (set p x y) link-forest q
      (λ z e. by_cases (ℕ_discrete z x)
      (λ (i : z ≡ x). absurd (omega (arith, link_here, rw i at e)))
      (λ (d : z ≡ x → ⊥). top z d (sym (link-other z d) ∙ e)))
      (λ z. by_cases (ℕ_discrete z x)
      (λ (i : z ≡ x). rw (i, link_here) same)
      (λ (d : z ≡ x → ⊥). rw (link-other z d) (up z d)))

-- a node's parent gives way to its parent's parent
halved : (p : List ℕ) → Forest p → (x : ℕ) → x < length p → (parent p x ≡ x → ⊥) → SameRoots p (set p x (parent p (parent p x)))
halved p f x within d =
    let y = parent p (parent p x) in
    let below : y < x = omega (arith, f.falls x, f.falls (parent p x)) in
    record {
      forest = link-forest p f x y below within;
      root = link-root p f x y below within (root_of p) (λ z _ e. root-top p f z e) (λ z _. root-up p f z) (root-up p f (parent p x) ∙ root-up p f x);
    }

same-roots-trans : (p q r : List ℕ) → SameRoots p q → SameRoots q r → SameRoots p r
same-roots-trans p q r s t = record { forest = t.forest; root = λ x. t.root x ∙ s.root x }

same-roots-refl : (p : List ℕ) → Forest p → SameRoots p p
same-roots-refl p f = record { forest = f; root = λ x. refl }

-- ---- two trees made one

-- the root r, once the root hi is linked to the root lo
linked : ℕ → ℕ → ℕ → ℕ
linked lo hi r = cond (eqb r hi) lo r

linked-at : (lo hi : ℕ) → linked lo hi hi ≡ lo
unfolding linked
linked-at lo hi = rw (eq-eqb hi hi refl)

linked-off : (lo hi r : ℕ) → (r ≡ hi → ⊥) → linked lo hi r ≡ r
unfolding linked
linked-off lo hi r d = rw (ne_eqb r hi d)

linked-self : (u r : ℕ) → linked u u r ≡ r
linked-self u r = by_cases (ℕ_discrete r u) (λ (e : r ≡ u). rw e (linked-at u u)) (λ (d : r ≡ u → ⊥). linked-off u u r d)

module _ (p : List ℕ) (f : Forest p) (lo hi : ℕ) (le : lo ≤ hi) (within : hi < length p) (low : parent p lo ≡ lo) (high : parent p hi ≡ hi) where
  link-roots : Forest (set p hi lo) × ((x : ℕ) → root_of (set p hi lo) x ≡ linked lo hi (root_of p x))
  link-roots =
      ⊎_elim
      (λ (e : lo ≡ hi).
      let s : set p hi lo ≡ p = ap (λ (v : ℕ). set p hi v) (e ∙ sym high) ∙ set-get_or p hi 0 in
      rw s (f, λ x. rw e (sym (linked-self hi (root_of p x)))))
      (λ (d : lo < hi). (
        link-forest p f hi lo d within,
        link-root p f hi lo d within (λ x. linked lo hi (root_of p x))
            (λ z n e. rw (root-top p f z e) (linked-off lo hi z n))
            (λ z n. ap (linked lo hi) (root-up p f z))
            (rw (root-top p f lo low, root-top p f hi high) (linked-off lo hi lo (λ e. omega arith) ∙ sym (linked-at lo hi))),
      ))
      (eq-or-lt_of_le le)

module _ (p : List ℕ) (f : Forest p) (a b : ℕ) where
  -- the tree of b's root is linked to a's, which is lower
  merge-left : root_of p a < root_of p b → root_of p b < length p → Merged p (set p (root_of p b) (root_of p a)) a b
  unfolding merged linked
  merge-left d within =
      let m = link-roots p f (root_of p a) (root_of p b) (omega arith) within (root-own p f a) (root-own p f b) in
      let hi : max (root_of p a) (root_of p b) ≡ root_of p b = omega arith in
      let lo : min (root_of p a) (root_of p b) ≡ root_of p a = omega arith in
      record { forest = m.0; root = λ x. rw (hi, lo) (m.1 x) }

  -- the tree of a's root is linked to b's, which is not higher
  merge-right : root_of p b ≤ root_of p a → root_of p a < length p → Merged p (set p (root_of p a) (root_of p b)) a b
  unfolding merged linked
  merge-right d within =
      let m = link-roots p f (root_of p b) (root_of p a) (omega arith) within (root-own p f b) (root-own p f a) in
      let hi : max (root_of p a) (root_of p b) ≡ root_of p a = omega arith in
      let lo : min (root_of p a) (root_of p b) ≡ root_of p b = omega arith in
      record { forest = m.0; root = λ x. rw (hi, lo) (m.1 x) }

  -- nodes with one parent are in one tree
  pub merge_none : parent p a ≡ parent p b → Merged p p a b
  unfolding merged linked
  merge_none e =
      let same : root_of p b ≡ root_of p a = sym (root-up p f b) ∙ ap (root_of p) (sym e) ∙ root-up p f a in
      let hi : max (root_of p a) (root_of p a) ≡ root_of p a = omega arith in
      let lo : min (root_of p a) (root_of p a) ≡ root_of p a = omega arith in
      record { forest = f; root = λ x. rw (same, hi, lo) (sym (linked-self (root_of p a) (root_of p x))) }

-- ---- what the functions over a parent list need and leave

pub parent-falls : {p : List ℕ} (x : ℕ) → Forest p → parent p x ≤ x
parent-falls x f = f.falls x

-- x's parent `up` and the parent of that were read, and x moved up
pub moved_up : {p : List ℕ} {x up y : ℕ} → Forest p → x < length p → up ≡ parent p x → up < x → y ≡ parent p up → Halved p x y (set p x y)
moved_up {p} {x} {up} f within u d n =
    rw (n, u)
    (record {
      below = omega (arith, u, d, f.falls (parent p x));
      root = root-up p f (parent p x) ∙ root-up p f x;
      same = halved p f x within (λ e. omega arith);
    })

-- a climb from x ends at once, or goes on from the parent's parent
pub climbed-top : {p : List ℕ} {x up : ℕ} → Forest p → up ≡ parent p x → up ≡ x → Climbed p x x p
climbed-top {p} {x} f u e = record { found = sym (root-top p f x (sym u ∙ e)); below = omega arith; same = same-roots-refl p f }

pub climbed-on : {p p₁ q : List ℕ} {x y r : ℕ} → Halved p x y p₁ → Climbed p₁ y r q → Climbed p x r q
climbed-on {y = y} h c = record {
  found = c.found ∙ h.same.root y ∙ h.root;
  below = omega (arith, c.below, h.below);
  same = same-roots-trans _ _ _ h.same c.same;
}

-- what is merged after two climbs is merged from the start
module _ {p p₁ p₂ : List ℕ} {a b u v : ℕ} (s : Climbed p a u p₁) (t : Climbed p₁ b v p₂) where
  both : SameRoots p p₂
  both = same-roots-trans p p₁ p₂ s.same t.same

  at_a : u ≡ root_of p₂ a
  at_a = s.found ∙ sym (both.root a)

  at_b : v ≡ root_of p₂ b
  at_b = t.found ∙ sym (t.same.root b)

  merged-from : (q : List ℕ) → Merged p₂ q a b → Merged p q a b
  merged-from q m =
      record { forest = m.forest; root = λ x. m.root x ∙ rw (both.root a, both.root b, both.root x) }

  pub joined-left : u < v → b < length p → length p₁ ≡ length p → length p₂ ≡ length p₁ → Merged p (set p₂ v u) a b
  joined-left d h k l =
      let w : v < length p₂ = omega (arith, t.below) in
      rw (at_a, at_b) (merged-from _ (merge-left p₂ both.forest a b (omega (arith, at_a, at_b)) (omega (arith, at_a, at_b))))

  pub joined-right : v ≤ u → a < length p → length p₁ ≡ length p → length p₂ ≡ length p₁ → Merged p (set p₂ u v) a b
  joined-right d h k l =
      let w : u < length p₂ = omega (arith, s.below) in
      rw (at_a, at_b) (merged-from _ (merge-right p₂ both.forest a b (omega (arith, at_a, at_b)) (omega (arith, at_a, at_b))))
