use Rattle.graph.proofs.Forests.{parent-falls}
use borrow.Author.Rules.{rules}
use Rattle.graph.proofs.forest.Trees.parent.Goals as goal

pub returns : goal.returns
returns c = search (rules, parent-falls)
