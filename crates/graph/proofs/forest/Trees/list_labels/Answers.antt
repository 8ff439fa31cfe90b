use Rattle.graph.proofs.Counts.{labels-none, label-own, label-other}
use Rattle.graph.proofs.forest.Trees.list_labels.Goals as goal
use Rattle.graph.proofs.forest.Trees.list_labels.Goals.{then-label-c, else-label-c}

pub loop-c-init : goal.loop-c-init
loop-c-init c = labels-none _

pub loop-c-preserved : goal.loop-c-preserved
loop-c-preserved c = elim c.if-label-c.branch [ then-label-c w ↦ search label-own | else-label-c w ↦ search label-other ]
