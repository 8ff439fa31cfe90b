use Rattle.std.proofs.Common.{◌≡◌}
use Rattle.system.specs.System.{effective_in, pull_in, weight_sum, pull_sum}
use Rattle.system.proofs.Sums.{places}
use Rattle.system.proofs.points.list_sums.Given as goal

abbrev pub invariant-loop-i : goal.invariant-loop-i
invariant-loop-i l =
    (l.weight ≡ weight_sum (effective_in l.rows.weights l.rows.scales) l.rows.links.listed (places l.k.first l.i))
    × (l.sum ≡ pull_sum (pull_in l.rows.rays l.rows.weights l.rows.scales) l.rows.links.listed (places l.k.first l.i))
