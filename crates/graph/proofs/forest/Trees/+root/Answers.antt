use Rattle.graph.proofs.Forests.{climbed-top, climbed-on}
use Rattle.graph.proofs.forest.Trees.+root.Goals as goal

pub returns-then-up-node-clause-climbed : goal.returns-then-up-node-clause-climbed
returns-then-up-node-clause-climbed t c = search climbed-top

pub returns-else-up-node-clause-climbed : goal.returns-else-up-node-clause-climbed
returns-else-up-node-clause-climbed t c = search climbed-on
