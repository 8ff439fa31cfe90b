use Rattle.system.proofs.Anchor.{best_none, best-more, best-ended}
use Rattle.system.proofs.Terms.{degree-at}
use lib.Ieee.{neg, of_bits}
use Rattle.system.proofs.assembly.pick_anchor.Goals as goal

pub loop-c-init : goal.loop-c-init
unfolding neg of_bits
loop-c-init c = best_none _

pub loop-c-preserved : goal.loop-c-preserved
loop-c-preserved c = search (best-more, degree-at)

pub returns : goal.returns
returns c = search best-ended
