use Rattle.graph.proofs.Outcomes.{labelled}
use borrow.Author.Rules.{rules}
use Rattle.graph.proofs.parts_in.Goals as goal

pub returns : goal.returns
returns c = record { labelled = search labelled; value = search rules }
