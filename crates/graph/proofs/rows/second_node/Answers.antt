use Rattle.std.proofs.Common.{arith}
use Rattle.graph.proofs.Spanning.{second-point, second-target}
use Rattle.graph.proofs.rows.second_node.Goals as goal

pub returns-then-row-s : goal.returns-then-row-s
returns-then-row-s c =
    let g = c.args.e.now in
    let e = c.shape-s.ensures.value in
    let h = rw e at c.if-row-s.true in
    rw e (second-point g.shape g.ends c.args.row h c.point.ensures.0, omega (arith, h))

pub returns-else-row-s : goal.returns-else-row-s
returns-else-row-s c =
    let g = c.args.e.now in
    let h = rw c.shape-s.ensures.value at c.if-row-s.false in
    (second-target g.shape g.ends c.args.row h c.target.ensures.0, omega arith)
