use Rattle.network.proofs.Verdicts.{given}
use Rattle.placement.proofs.Routing.{iterative-failed, iterative-placed, matrix-room}
use Rattle.placement.proofs.routes.go_iterative.Goals as goal

pub solve_iterative-requires : goal.solve_iterative-requires
solve_iterative-requires c = search matrix-room

pub returns-in_err-rounds : goal.returns-in_err-rounds
returns-in_err-rounds c = rw (given c.from_residual.ensures.1) (search (iterative-failed, c.in_err-rounds.was))

pub returns : goal.returns
returns c = search (iterative-placed, c.in_ok-rounds.was)
