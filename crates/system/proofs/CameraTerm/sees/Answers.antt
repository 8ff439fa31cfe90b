use Rattle.system.proofs.Terms.{sees-faint, sees-full}
use Rattle.system.proofs.CameraTerm.sees.Goals as goal

pub returns-then-w : goal.returns-then-w
returns-then-w c = search sees-faint

pub returns : goal.returns
returns c = search sees-full
