use borrow.Author.Rules.{rules}
use Rattle.iterative.proofs.Entries.{search-made}
use Rattle.iterative.proofs.fields.update_search.Goals as goal

pub returns : goal.returns
returns c = c.fill.ensures _ (λ x i v h e p. search-made _ 0 _ _ i v h _ _ c.requires.apart _ _ e (search (rules, p)))
