use Rattle.command.proofs.Printing.{step-printed, step-refused}
use Rattle.command.proofs.run.Goals as goal

pub returns-in-Err : goal.returns-in-Err
returns-in-Err c = search step-refused

pub returns-in-Ok : goal.returns-in-Ok
returns-in-Ok c = search step-printed
