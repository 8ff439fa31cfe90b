use Rattle.operator.proofs.Passes.{rows_are}
use Rattle.operator.proofs.list_step.Goals as goal

pub returns-in-2 : goal.returns-in-2
returns-in-2 c = search rows_are

pub returns-in-4 : goal.returns-in-4
returns-in-4 c = search rows_are

pub returns-in_default : goal.returns-in_default
returns-in_default c = search rows_are
