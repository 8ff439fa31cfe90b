-- `root` calls itself for the parent: no parent is above its node.
use Rattle.graph.proofs.forest.Trees.+root.Given as goal

abbrev pub decreases-root : goal.decreases-root
decreases-root l = l.node
