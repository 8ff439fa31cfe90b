use Rattle.records.proofs.Runs.{real-finite, real-below, real-above, real-nan}
use Rattle.records.proofs.lines.real.Goals as goal

pub returns-in-Finite : goal.returns-in-Finite
returns-in-Finite c = search real-finite

pub returns-then-below : goal.returns-then-below
returns-then-below c = search real-below

pub returns-else-below : goal.returns-else-below
returns-else-below c = search real-above

pub returns-in-NotANumber : goal.returns-in-NotANumber
returns-in-NotANumber c = search real-nan
