use Rattle.std.proofs.Common.{◌≡◌}
use Rattle.system.specs.System.{effective_in, weight_sum}
use Rattle.system.proofs.Sums.{places}
use Rattle.system.proofs.points.point_weight.Given as goal

abbrev pub invariant-loop-i : goal.invariant-loop-i
invariant-loop-i l = l.sum ≡ weight_sum (effective_in l.weights l.scales) l.listed (places l.k.first l.i)
