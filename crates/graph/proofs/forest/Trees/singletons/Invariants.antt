use Prim.Native.Nat.{ℕ, ◌<◌}
use mathlib.Core.Path.{◌≡◌}
use Rattle.graph.specs.inner.Forest.{parent}
use Rattle.graph.proofs.forest.Trees.singletons.Given as goal

abbrev pub invariant-loop-i : goal.invariant-loop-i
invariant-loop-i l = (x : ℕ) → x < l.i → parent l.parents x ≡ x
