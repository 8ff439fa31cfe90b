use Rattle.network.proofs.Sound.{rises-in, span-in}
use Rattle.network.proofs.links.span_of.Goals as goal

pub overflow_sub-result : goal.overflow_sub-result
overflow_sub-result c = search rises-in

pub returns : goal.returns
returns c = search span-in
