-- How the trees of a parent list keep to the parts of a relation, row by row, and what they then tell of it. Assumes nothing.
use Prim.Native.Nat.{ℕ, suc, ◌+◌, ◌≤◌, ◌<◌, min, max}
use mathlib.Core.Path.{◌≡◌, refl, sym, ap, ◌∙◌}
use mathlib.Core.Logic.{⊎_elim, ◌⊎◌, inl, inr, by_cases}
use mathlib.Core.List.{List}
use mathlib.Core.Bool.{Bool, true, false, cond, true≢false}
use native.Mathlib.Nat.{eq-or-lt_of_le, le_of_suc-le-suc, max-eq_left, max-eq_right, min-eq_left, min-eq_right}
use native.Mathlib.Numerals.{add-one}
use native.Mathlib.Decide.{dec_le, dec_lt}
use native.Mathlib.Omega.{arith}
use lib.ListN.{length, get_or, get_or-eq_default}
use lib.Dec.{eqb}
use lib.Ieee.{lt, nan}
use borrow.Author.Tests.{eq-eqb, eqb-true, lt-ltb, le-ltb}
use Rattle.field.specs.Vec.{null}
use Rattle.network.specs.declared.Shape.{Shape}
use Rattle.network.specs.Network.{Graph, rows, first_end, second_end}
use Rattle.graph.specs.Outcome.{node_count}
use Rattle.graph.specs.Walk.{Walk, stay, step, Connects, LowestReached}
use Rattle.graph.specs.Joined.{second_node, SamePair, Joined, JoinedBelow}
use Rattle.graph.specs.inner.Forest.{Forest, Singletons, RootsZero, root_of, merged, Merged, Spans}
use Rattle.graph.proofs.Walks.{append, reverse, shared, widen}
use Rattle.graph.proofs.Forests.{root-top, root-falls}

-- ---- two trees made one

-- the roots u and v have one root after
merged-one : (u v : ℕ) → merged u v u ≡ merged u v v
unfolding merged
merged-one u v =
    by_cases
    (dec_le u v)
    (λ (h : u ≤ v). rw (max-eq_right h, min-eq_left h, eq-eqb v v refl) (either (eqb u v) u))
    (λ n. let h : v ≤ u = omega arith in rw (max-eq_left h, min-eq_right h, eq-eqb u u refl) (sym (either (eqb v u) v)))
  where
    either : (b : Bool) (w : ℕ) → cond b w w ≡ w
    either true w = refl
    either false w = refl

-- where a walk leads from u to v, one leads from each root to the root after
merged-walk : (K : ℕ → ℕ → Type 0) → ((a b : ℕ) → K a b → K b a) → (u v r : ℕ) → Walk K u v → Walk K r (merged u v r)
unfolding merged
merged-walk K symmetric u v r w = go (eqb r (max u v)) refl
  where
    down : Walk K (max u v) (min u v)
    down =
        by_cases
        (dec_le u v)
        (λ (h : u ≤ v). rw (max-eq_right h, min-eq_left h) (reverse K symmetric w))
        (λ n. let h : v ≤ u = omega arith in rw (max-eq_left h, min-eq_right h) w)

    go : (b : Bool) → eqb r (max u v) ≡ b → Walk K r (cond b (min u v) r)
    go true e = rw (eqb-true r (max u v) e) down
    go false e = stay

-- K joins a and b besides what J joins
module _ (J K : ℕ → ℕ → Type 0) (a b : ℕ) (more : (x y : ℕ) → J x y → K x y) (symmetric : (x y : ℕ) → K x y → K y x) (new : K a b)
    (only : (x y : ℕ) → K x y → J x y ⊎ (((x ≡ a) × (y ≡ b)) ⊎ ((x ≡ b) × (y ≡ a)))) where
  pub spans-merged : (p q : List ℕ) → Spans J p → Merged p q a b → a < length p → b < length p → length q ≡ length p → Spans K q
  spans-merged p q s m ha hb l =
      let u = root_of p a in
      let v = root_of p b in
      let up : (x : ℕ) → x < length p → Walk K x (root_of p x) = λ x h. widen J K more (s.walk x h) in
      let across : Walk K u v = append K (reverse K symmetric (up a ha)) (step new (up b hb)) in
      let one : root_of q a ≡ root_of q b = m.root a ∙ merged-one u v ∙ sym (m.root b) in
      record {
        forest = m.forest;
        walk = λ x h. rw (m.root x) (append K (up x (omega arith)) (merged-walk K symmetric u v (root_of p x) across));
        same = λ x y k.
            ⊎_elim
            (λ (j : J x y). m.root x ∙ ap (merged u v) (s.same x y j) ∙ sym (m.root y))
            (⊎_elim
            (λ (e : (x ≡ a) × (y ≡ b)). rw (e.0, e.1) one)
            (λ (e : (x ≡ b) × (y ≡ a)). rw (e.0, e.1) (sym one)))
            (only x y k);
      }

-- J and K join the same nodes
pub spans-same : (J K : ℕ → ℕ → Type 0) → ((x y : ℕ) → J x y → K x y) → ((x y : ℕ) → K x y → J x y) → (p : List ℕ) → Spans J p → Spans K p
spans-same J K more less p s =
    record { forest = s.forest; walk = λ x h. widen J K more (s.walk x h); same = λ x y k. s.same x y (less x y k) }

-- ---- the rows below k, one more at a time

turned : {u v a b : ℕ} → SamePair u v a b → SamePair u v b a
turned = ⊎_elim (λ e. inr (e.1, e.0)) (λ e. inl (e.1, e.0))

module _ (g : Graph) where
  pub symmetric : (k a b : ℕ) → JoinedBelow g k a b → JoinedBelow g k b a
  symmetric k a b j = record { row = j.row; below = j.below; positive = j.positive; nodes = turned j.nodes }

  later : (k a b : ℕ) → JoinedBelow g k a b → JoinedBelow g (suc k) a b
  later k a b j = record { row = j.row; below = omega (arith, j.below); positive = j.positive; nodes = j.nodes }

  -- joined by a row below k, or by row k
  latest : (k a b : ℕ) → JoinedBelow g (suc k) a b →
      JoinedBelow g k a b ⊎ ((lt null (get_or g.weights k nan) ≡ true) × SamePair (first_end g.ends k) (second_node g.shape g.ends k) a b)
  latest k a b j =
      ⊎_elim
      (λ (e : j.row ≡ k). inr (rw e at j.positive, rw e at j.nodes))
      (λ (h : j.row < k). inl (record { row = j.row; below = h; positive = j.positive; nodes = j.nodes }))
      (eq-or-lt_of_le (le_of_suc-le-suc j.below))

  -- row k has a weight above 0, and its nodes' trees are made one
  row-joins : (k : ℕ) (p q : List ℕ) → lt null (get_or g.weights k nan) ≡ true → Spans (JoinedBelow g k) p →
      let u = first_end g.ends k in
      let v = second_node g.shape g.ends k in
      Merged p q u v → u < length p → v < length p → length q ≡ length p → Spans (JoinedBelow g (k + 1)) q
  row-joins k p q w s =
      rw (add-one k)
      (spans-merged (JoinedBelow g k) (JoinedBelow g (suc k)) (first_end g.ends k) (second_node g.shape g.ends k) (later k) (symmetric (suc k))
      (record { row = k; below = omega arith; positive = w; nodes = inl (refl, refl) })
      (λ x y j. ⊎_elim (λ (i : JoinedBelow g k x y). inl i) (λ e. inr e.1) (latest k x y j))
      p q s)

-- the same, of the nodes a and b that were read
pub spans-row : {g : Graph} {k a b : ℕ} {p q : List ℕ} → lt null (get_or g.weights k nan) ≡ true →
    Spans (JoinedBelow g k) p → length p ≡ node_count g →
    a ≡ first_end g.ends k → a < g.shape.cameras → b ≡ second_node g.shape g.ends k → b < node_count g → Merged p q a b → length q ≡ length p →
    Spans (JoinedBelow g (k + 1)) q
spans-row {g} {k} {a} {b} {p} {q} w t h e i f j m l = row-joins g k p q w t (rw (e, f) at m) (omega arith) (omega arith) l

-- row k has the weight 0
pub spans-skip : {g : Graph} {k : ℕ} {p : List ℕ} → lt null (get_or g.weights k nan) ≡ false → Spans (JoinedBelow g k) p → Spans (JoinedBelow g (k + 1)) p
spans-skip {g} {k} {p} w =
    rw (add-one k)
    (spans-same (JoinedBelow g k) (JoinedBelow g (suc k)) (later g k)
    (λ x y j. ⊎_elim (λ (i : JoinedBelow g k x y). i) (λ e. absurd (true≢false (sym e.0 ∙ w))) (latest g k x y j))
    p)

-- no row yet: each node is its own parent
pub spans-none : (g : Graph) {p : List ℕ} → Singletons p → Spans (JoinedBelow g 0) p
spans-none g {p} a =
    let f : Forest p = record {
      falls = λ x. by_cases (dec_lt x (length p))
          (λ (h : x < length p). omega (arith, a.own x h))
          (λ n. let h : length p ≤ x = omega arith in omega (arith, get_or-eq_default p 0 h));
    } in
    record {
      forest = f;
      walk = λ x h. rw (root-top p f x (a.own x h)) stay;
      same = λ a b j. absurd (omega (arith, j.below));
    }

-- every row
pub spans_all : {g : Graph} {k : ℕ} {p : List ℕ} → Spans (JoinedBelow g k) p → k ≡ rows g.shape → Spans (Joined g) p
spans_all s e = rw e at s

-- ---- a row's second node

pub second-point : (s : Shape) (ends : List ℕ) (r : ℕ) {p : ℕ} → r < s.bearings → p ≡ second_end ends r → s.cameras + p ≡ second_node s ends r
second-point s ends r h e = rw (lt-ltb r s.bearings h, e)

pub second-target : (s : Shape) (ends : List ℕ) (r : ℕ) {t : ℕ} → s.bearings ≤ r → t ≡ second_end ends r → t ≡ second_node s ends r
second-target s ends r h e = rw (le-ltb r s.bearings h, e)

-- ---- what the trees tell

root-zero : (p : List ℕ) → Forest p → root_of p 0 ≡ 0
root-zero p f = omega (arith, root-falls p f 0)

module _ (J : ℕ → ℕ → Type 0) (symmetric : (a b : ℕ) → J a b → J b a) (p : List ℕ) (s : Spans J p) where
  along : {a b : ℕ} → Walk J a b → root_of p a ≡ root_of p b
  along = shared J (root_of p) s.same

  -- the cameras are connected just if each has the root 0
  pub connects : (n : ℕ) → n ≤ length p → RootsZero p n → Connects J n
  unfolding Connects RootsZero
  connects n h all c l = reverse J symmetric (rw (all c l) at (s.walk c (omega arith)))

  pub roots-zero : (n : ℕ) → Connects J n → RootsZero p n
  unfolding Connects RootsZero
  roots-zero n all c l = sym (along (all c l)) ∙ root-zero p s.forest

  -- a camera's root is the lowest that it reaches
  pub lowest-root : (n : ℕ) → n ≤ length p → (c : ℕ) → c < n → LowestReached J n c (root_of p c)
  lowest-root n h c l =
      record {
        camera = omega (arith, root-falls p s.forest c);
        reached = s.walk c (omega arith);
        lowest = λ k _ w. omega (arith, along w, root-falls p s.forest k);
      }
