use Rattle.std.proofs.Common.{◌≡◌}
use Rattle.system.specs.System.{pull_sum}
use Rattle.system.proofs.Sums.{places}
use Rattle.recover.specs.inner.Reads.{sighting_in}
use Rattle.recover.proofs.point.sum_sightings.Given as goal

abbrev pub invariant-loop-i : goal.invariant-loop-i
invariant-loop-i l = l.sum ≡ pull_sum (sighting_in l.rows l.work) l.rows.links.listed (places l.k.first l.i)
