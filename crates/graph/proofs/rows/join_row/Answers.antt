use Rattle.graph.proofs.Spanning.{spans-row, spans-skip}
use Rattle.graph.proofs.rows.join_row.Goals as goal

pub returns-then-weight : goal.returns-then-weight
returns-then-weight c =
    let w = rw c.weight.ensures at c.if-weight.true in
    let first = rw c.ends-ends.ensures at c.camera-first.ensures in
    let second = rw c.ends-ends.ensures at c.second_node-second.ensures in
    search spans-row

pub returns-else-weight : goal.returns-else-weight
returns-else-weight c = let w = rw c.weight.ensures at c.if-weight.false in search spans-skip
