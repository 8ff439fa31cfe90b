use Rattle.recover.proofs.Rows.{direction-first, direction-later}
use Rattle.recover.proofs.rescale.keeps_direction.Goals as goal

pub returns-then-b-eq0 : goal.returns-then-b-eq0
returns-then-b-eq0 c = search direction-first

pub returns-else-b-eq0 : goal.returns-else-b-eq0
returns-else-b-eq0 c = search direction-later
