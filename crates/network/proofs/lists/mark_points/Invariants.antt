use mathlib.Core.Bool.{true}
use mathlib.Core.Path.{◌≡◌}
use Prim.Native.Nat.{◌≤◌, ◌-◌}
use lib.ListN.{get_or}
use Rattle.network.specs.Lists.{none}
use Rattle.network.specs.inner.Marks.{Marked, has_unfit}
use Rattle.network.proofs.lists.mark_points.Given as goal

abbrev pub invariant-loop-p : goal.invariant-loop-p
invariant-loop-p l =
    let b = l.lists.shape.bearings in
    (l.p ≤ l.lists.shape.points) × (none (has_unfit b l.lists.ends l.lists.offsets l.lists.listed) l.p ≡ true)
    × Marked b l.lists.listed true (get_or l.lists.offsets l.p 0) l.marks

abbrev pub decreases-loop-p : goal.decreases-loop-p
decreases-loop-p l = l.lists.shape.points - l.p
