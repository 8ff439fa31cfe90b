use Rattle.graph.proofs.Counts.{LabelledBelow}
use Rattle.graph.proofs.forest.Trees.list_labels.Given as goal

abbrev pub invariant-loop-c : goal.invariant-loop-c
invariant-loop-c l = LabelledBelow l.initial.self l.initial.labels l.self l.labels l.count l.c
