use Rattle.recover.proofs.Cameras.{marked-trial, marked-current}
use Rattle.recover.proofs.part.marked_buffer.Goals as goal

pub returns-then-mark : goal.returns-then-mark
returns-then-mark c = search marked-trial

pub returns-else-mark : goal.returns-else-mark
returns-else-mark c = search marked-current
