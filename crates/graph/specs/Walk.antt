-- Walks, what they connect and what they reach (document 01: 'Connected means a walk of joined nodes from camera 0 to every camera. The parts
-- listing labels each camera with the lowest camera it reaches'), for any relation J that says which nodes are joined.
use Rattle.std.specs.Prelude.{ℕ, ◌≤◌, ◌<◌}

-- a walk from one node to another: stay, or step to a joined node and walk on from there
pub data Walk (J : ℕ → ℕ → Type 0) : ℕ → ℕ → Type 0 where
  stay : {a : ℕ} → Walk J a a
  step : {a b c : ℕ} → J a b → Walk J b c → Walk J a c

-- from camera 0 a walk to each of n cameras
unfoldable pub Connects : (ℕ → ℕ → Type 0) → ℕ → Type 0
Connects J n = (c : ℕ) → c < n → Walk J 0 c

-- l is the lowest of n cameras that a walk from c reaches
pub record LowestReached (J : ℕ → ℕ → Type 0) (n c l : ℕ) : Type 0 where
  pub camera : l < n
  pub reached : Walk J c l
  pub lowest : (k : ℕ) → k < n → Walk J c k → l ≤ k
