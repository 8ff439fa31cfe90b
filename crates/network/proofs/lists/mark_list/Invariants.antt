use mathlib.Core.Bool.{true}
use mathlib.Core.Path.{◌≡◌}
use Prim.Native.Nat.{◌+◌, ◌≤◌, ◌-◌}
use Rattle.network.specs.Lists.{none}
use Rattle.network.specs.inner.Marks.{Marked, unfit}
use Rattle.network.proofs.lists.mark_list.Given as goal

abbrev pub invariant-loop-i : goal.invariant-loop-i
invariant-loop-i l =
    let b = l.lists.shape.bearings in
    (l.i ≤ l.k.size) × (none (λ j. unfit b l.lists.ends l.lists.listed l.p (l.k.first + j)) l.i ≡ true) × Marked b l.lists.listed true (l.k.first + l.i) l.marks

abbrev pub decreases-loop-i : goal.decreases-loop-i
decreases-loop-i l = l.k.size - l.i
