use Rattle.std.proofs.Common.{sym, arith, rules, length, ◌≤◌}
use lib.Seq.{length-take-le}
use Rattle.graph.proofs.Outcomes.{zeroed}
use Rattle.graph.proofs.decide.Goals as goal

pub slice_bounds-connected_in-end-2 : goal.slice_bounds-connected_in-end-2
slice_bounds-connected_in-end-2 c = sym (length-take-le _ _ (omega arith))

pub connected_in-connected-requires : goal.connected_in-connected-requires
connected_in-connected-requires c = rw c.node_count-count.ensures (length-take-le _ _ c.requires)

pub returns : goal.returns
returns c = record { decided = search rules; nodes_after = let l : c.node_count-count.result ≤ length c.args.nodes.now = omega arith in rw (← c.node_count-count.ensures) (search zeroed) }
