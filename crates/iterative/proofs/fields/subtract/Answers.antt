use borrow.Author.Rules.{rules}
use Rattle.iterative.proofs.Entries.{difference-made}
use Rattle.iterative.proofs.fields.subtract.Goals as goal

pub returns : goal.returns
returns c = c.fill.ensures _ (λ x i v h e p. difference-made _ 0 _ _ i v h _ _ c.requires.apart e (search (rules, p)))
