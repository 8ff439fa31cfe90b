use Rattle.std.proofs.Common.{ap, arith, ◌∙◌}
use Rattle.network.specs.Network.{RowEnds, rows}
use Rattle.graph.proofs.Spanning.{spans-none, spans_all}
use Rattle.graph.proofs.rows.join_rows.Goals as goal

pub loop-row-init : goal.loop-row-init
loop-row-init c = record { spans = search spans-none; len = c.singletons-trees.ensures.len ∙ c.requires }

pub returns-clause-spans : goal.returns-clause-spans
returns-clause-spans c =
    spans_all c.loop-row.invariant.spans (omega (arith, ap rows (c.shape-s.ensures.value ∙ ap (λ (e : RowEnds). e.shape) c.ends.ensures)))
