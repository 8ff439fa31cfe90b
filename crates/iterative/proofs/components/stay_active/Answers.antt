use Rattle.iterative.specs.Method.{stays_active}
use Rattle.iterative.proofs.components.stay_active.Goals as goal

pub returns : goal.returns
unfolding stays_active
returns c = rw (c.stays_active.ensures, c.stays_active-2.ensures, c.stays_active-3.ensures)
