use Rattle.std.proofs.Common.{sym, arith, rules, length, ◌≤◌}
use lib.Seq.{length-take-le}
use Rattle.graph.proofs.Outcomes.{zeroed}
use Rattle.graph.proofs.list_parts.Goals as goal

pub slice_bounds-parts_in-end-2 : goal.slice_bounds-parts_in-end-2
slice_bounds-parts_in-end-2 c = sym (length-take-le _ _ (omega arith))

pub parts_in-parts-requires : goal.parts_in-parts-requires
parts_in-parts-requires c = rw c.node_count-size.ensures (length-take-le _ _ c.requires.0, search rules)

pub returns : goal.returns
returns c = record { labelled = search rules; value = search rules; nodes_after = let l : c.node_count-size.result ≤ length c.args.nodes.now = omega arith in rw (← c.node_count-size.ensures) (search zeroed) }
