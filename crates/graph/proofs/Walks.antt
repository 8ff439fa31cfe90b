-- Laws of walks over any relation. Assumes nothing.
use Prim.Native.Nat.{ℕ}
use mathlib.Core.Path.{◌≡◌, refl, ◌∙◌}
use native.Mathlib.Nat.{le_antisymm}
use Rattle.graph.specs.Walk.{Walk, stay, step, LowestReached}

module _ (J : ℕ → ℕ → Type 0) where
  pub append : {a b c : ℕ} → Walk J a b → Walk J b c → Walk J a c
  append stay v = v
  append (step j w) v = step j (append w v)

  pub reverse : ((a b : ℕ) → J a b → J b a) → {a b : ℕ} → Walk J a b → Walk J b a
  reverse symmetric stay = stay
  reverse symmetric (step j w) = append (reverse symmetric w) (step (symmetric _ _ j) stay)

  -- a number that joined nodes share is shared along a walk
  pub shared : (f : ℕ → ℕ) → ((a b : ℕ) → J a b → f a ≡ f b) → {a b : ℕ} → Walk J a b → f a ≡ f b
  shared f same stay = refl
  shared f same (step j w) = same _ _ j ∙ shared f same w

-- a walk, where more nodes are joined
pub widen : (J K : ℕ → ℕ → Type 0) → ((a b : ℕ) → J a b → K a b) → {a b : ℕ} → Walk J a b → Walk K a b
widen J K more stay = stay
widen J K more (step j w) = step (more _ _ j) (widen J K more w)

-- a camera has one label
pub lowest-one : (J : ℕ → ℕ → Type 0) (n c k l : ℕ) → LowestReached J n c k → LowestReached J n c l → k ≡ l
lowest-one J n c k l s t = le_antisymm (s.lowest l t.camera t.reached) (t.lowest k s.camera s.reached)
