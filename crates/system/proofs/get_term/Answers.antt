use Rattle.system.proofs.Terms.{get-term-by}
use Rattle.system.proofs.get_term.Goals as goal

pub returns : goal.returns
returns c = search get-term-by
