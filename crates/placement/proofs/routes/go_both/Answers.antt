use native.Mathlib.Omega.{arith}
use Rattle.placement.proofs.Routing.{dense-after, iterative-placed, matrix-room, ready-after}
use Rattle.placement.proofs.routes.go_both.Goals as goal

pub solve_iterative-requires : goal.solve_iterative-requires
solve_iterative-requires c = search matrix-room

pub go_dense-requires : goal.go_dense-requires
go_dense-requires c = record { route_ready = search ready-after; not_iterative = λ e. omega arith }

pub returns-in-Ok : goal.returns-in-Ok
returns-in-Ok c = search iterative-placed

pub returns-in-Err : goal.returns-in-Err
returns-in-Err c = search dense-after
