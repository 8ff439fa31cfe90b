use Rattle.placement.proofs.Routing.{route-both, route-dense, route-iterative}
use Rattle.placement.proofs.routes.go.Goals as goal

pub returns-in-Dense : goal.returns-in-Dense
returns-in-Dense c =
    let gone = rw (c.shape.ensures.value, c.in-Dense.is) at c.go_dense.ensures in
    rw c.in-Dense.is (route-dense _ _ _ _ _ _ _ gone)

pub returns-in-Iterative : goal.returns-in-Iterative
returns-in-Iterative c = rw c.in-Iterative.is (route-iterative _ _ _ _ _ _ _ c.go_iterative.ensures)

pub returns-in-IterativeThenDense : goal.returns-in-IterativeThenDense
returns-in-IterativeThenDense c = rw c.in-IterativeThenDense.is (route-both _ _ _ _ _ _ _ c.go_both.ensures)
