use Rattle.iterative.proofs.Rounding.{continue-running, continue-ended}
use Rattle.iterative.proofs.rounds.go_on.Goals as goal

pub returns-then-any : goal.returns-then-any
returns-then-any c = search continue-running

pub returns-else-any : goal.returns-else-any
returns-else-any c = search continue-ended
