-- Parent lists (disjoint-set forests, as in the Rust's `active_graph_is_connected`): the trees by which joined nodes are kept together.
-- (Document 01: 'a parent is never a greater number than its node, so climbing recurses on a falling node number'.)
use Rattle.std.specs.Prelude.{ℕ, zero, suc, ◌≤◌, ◌<◌, min, max, ◌≡◌, List, Bool, true, false, cond, length, get_or, eqb}
use Rattle.graph.specs.Walk.{Walk}

-- x's parent
abbrev pub parent : List ℕ → ℕ → ℕ
parent p x = get_or p x 0

-- no parent exceeds its node
pub record Forest (p : List ℕ) : Type 0 where
  pub falls : (x : ℕ) → parent p x ≤ x

-- the node k parents above x
unfoldable pub climb : List ℕ → ℕ → ℕ → ℕ
climb p zero x = x
climb p (suc k) x = climb p k (parent p x)

-- x's root: in a forest x steps are enough, since each reaches a lower node until the root, which is its own parent
unfoldable pub root_of : List ℕ → ℕ → ℕ
root_of p x = climb p x x

-- each node is its own parent
pub record Singletons (p : List ℕ) : Type 0 where
  pub own : (x : ℕ) → x < length p → parent p x ≡ x

-- each of the first n nodes has the root 0
unfoldable pub RootsZero : List ℕ → ℕ → Type 0
RootsZero p n = (c : ℕ) → c < n → root_of p c ≡ 0

-- q is a forest in which every node has the root that it has in p
pub record SameRoots (p q : List ℕ) : Type 0 where
  pub forest : Forest q
  pub root : (x : ℕ) → root_of q x ≡ root_of p x

-- q is p with x moved up to its parent's parent y
pub record Halved (p : List ℕ) (x y : ℕ) (q : List ℕ) : Type 0 where
  pub below : y < x
  pub root : root_of p y ≡ root_of p x
  pub same : SameRoots p q

-- climbing from x found the root r and left the parents q (the Rust's `root`)
pub record Climbed (p : List ℕ) (x r : ℕ) (q : List ℕ) : Type 0 where
  pub found : r ≡ root_of p x
  pub below : r ≤ x
  pub same : SameRoots p q

-- the root r, once the trees of the roots u and v are one with the lower of the two as its root
unfoldable pub merged : ℕ → ℕ → ℕ → ℕ
merged u v r = cond (eqb r (max u v)) (min u v) r

-- q is p with the trees of a and b made one (the Rust's `join`)
pub record Merged (p q : List ℕ) (a b : ℕ) : Type 0 where
  pub forest : Forest q
  pub root : (x : ℕ) → root_of q x ≡ merged (root_of p a) (root_of p b) (root_of p x)

-- p's trees are the parts of J: each node has a walk to its root, and joined nodes have one root
pub record Spans (J : ℕ → ℕ → Type 0) (p : List ℕ) : Type 0 where
  pub forest : Forest p
  pub walk : (x : ℕ) → x < length p → Walk J x (root_of p x)
  pub same : (a b : ℕ) → J a b → root_of p a ≡ root_of p b

-- b tells whether P holds
pub record Decides (b : Bool) (P : Type 0) : Type 0 where
  pub yes : b ≡ true → P
  pub no : b ≡ false → P → ⊥
