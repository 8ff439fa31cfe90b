use Rattle.network.specs.Refusals.{strays}
use Rattle.network.proofs.ends.strays_at.Goals as goal
use Rattle.network.proofs.ends.strays_at.Goals.{then-r-s, else-r-s}
use Rattle.std.proofs.Common.{lt-ltb, le-ltb}

pub returns : goal.returns
unfolding strays
returns c = elim c.if-r-s.branch [ then-r-s w ↦ rw (w.others-is, lt-ltb _ _ w.if-r-s.true) | else-r-s w ↦ rw (w.others-is, le-ltb _ _ w.if-r-s.false) ]
