use Prim.Native.Nat.{ℕ, ◌<◌}
use mathlib.Core.Path.{◌≡◌}
use lib.ListN.{length}
use Rattle.graph.specs.inner.Forest.{root_of}
use Rattle.graph.proofs.forest.Trees.all_roots_zero.Given as goal

abbrev pub invariant-loop-c : goal.invariant-loop-c
invariant-loop-c l = record {
  root : (x : ℕ) → root_of l.self x ≡ root_of l.initial.self x;
  long : length l.self ≡ length l.initial.self;
  zero : (x : ℕ) → x < l.c → root_of l.initial.self x ≡ 0;
}
