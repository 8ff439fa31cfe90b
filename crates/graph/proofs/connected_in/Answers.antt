use Rattle.graph.proofs.Outcomes.{decided}
use Rattle.graph.proofs.connected_in.Goals as goal

pub returns : goal.returns
returns c = decided c.join_rows-trees.ensures.spans c.join_rows-trees.ensures.len (rw (c.shape.ensures.value, c.ends.ensures) at c.all_roots_zero.ensures)
