use native.Mathlib.Omega.{arith}
use Rattle.iterative.specs.Problem.{most_rounds}
use Rattle.iterative.proofs.rounds.most_rounds.Goals as goal

pub returns : goal.returns
unfolding most_rounds
returns c = (omega (arith, c.clamp.ensures), omega (arith, c.clamp.ensures))
