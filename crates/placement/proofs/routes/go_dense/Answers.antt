use Rattle.placement.proofs.Routing.{dense-broken, dense-over, dense-room, dense-within}
use borrow.Author.Rules.{rules}
use Rattle.placement.proofs.routes.go_dense.Goals as goal

pub returns-then-shape-limit : goal.returns-then-shape-limit
returns-then-shape-limit c = let over = rw c.shape.ensures.value at c.if-shape-limit.true in search dense-over

pub solve_dense-requires : goal.solve_dense-requires
solve_dense-requires c = let within = rw c.shape.ensures.value at c.if-shape-limit.false in (search rules, search dense-room)

pub returns-in-Ok : goal.returns-in-Ok
returns-in-Ok c = let within = rw c.shape.ensures.value at c.if-shape-limit.false in search (dense-within, c.in-Ok.ensures)

pub returns-in-Err : goal.returns-in-Err
returns-in-Err c = let within = rw c.shape.ensures.value at c.if-shape-limit.false in search (dense-broken, c.in-Err.ensures)
