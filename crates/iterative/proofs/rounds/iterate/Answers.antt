use Rattle.iterative.proofs.Running.{bound-right, iterated-begun, iterated-none}
use borrow.Author.Rules.{rules}
use Rattle.iterative.proofs.rounds.iterate.Goals as goal

pub rounds-requires : goal.rounds-requires
rounds-requires c = record { s_in_bounds = search rules; bound_value = search bound-right; count_value = search rules }

pub returns-then-any : goal.returns-then-any
returns-then-any c = search iterated-begun

pub returns-else-any : goal.returns-else-any
returns-else-any c = search iterated-none
