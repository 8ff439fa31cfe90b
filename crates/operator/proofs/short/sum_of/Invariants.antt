use Rattle.std.proofs.Common.{◌≡◌}
use Rattle.operator.specs.inner.Applied.{summed}
use Rattle.operator.proofs.short.sum_of.Given as goal

abbrev pub invariant-loop-s : goal.invariant-loop-s
invariant-loop-s g l = l.sum ≡ summed l.sights l.s-index
