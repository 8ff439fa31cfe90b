use native.Mathlib.Omega.{arith}
use Rattle.network.proofs.Sound.{dense-is, dense-small}
use Rattle.network.proofs.route.dense_rows.Goals as goal

pub returns-then-bad_route-route : goal.returns-then-bad_route-route
returns-then-bad_route-route c = (dense-is _ _ _ c.bad_route.ensures c.if-bad_route-route.true, omega arith)

pub returns-else-bad_route-route : goal.returns-else-bad_route-route
returns-else-bad_route-route c = let e = dense-is _ _ _ c.bad_route.ensures c.if-bad_route-route.false in (e, rw e (dense-small _ _ _))
