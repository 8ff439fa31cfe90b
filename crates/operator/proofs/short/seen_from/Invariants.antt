use Rattle.std.proofs.Common.{◌≡◌, length}
use Rattle.operator.specs.inner.Applied.{SeenFrom}
use Rattle.operator.proofs.short.seen_from.Given as goal

abbrev pub invariant-loop-i : goal.invariant-loop-i
invariant-loop-i g l = (length l.sights ≡ g.row.N) × SeenFrom l.links.shape l.links.ends l.links.listed l.work l.from l.k l.i l.sights
