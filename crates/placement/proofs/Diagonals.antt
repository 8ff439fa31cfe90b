-- specs/Diagonals, from system's. Assumes nothing.
use Rattle.system.proofs.Diagonals.{diagonals-above-zero}
use Rattle.iterative.specs.Reduced.{problem_by}
use Rattle.placement.specs.Diagonals.{SolvesAboveZero}
use Rattle.placement.proofs.Placing.{network-passes}

pub solves-above-zero : SolvesAboveZero
unfolding problem_by
solves-above-zero = record { above = λ i e c l. diagonals-above-zero.above i.net (network-passes i e) c l }
