use Rattle.records.proofs.Runs.{reach-none, reach-more, alike-none, bits-more, bits-met}
use Rattle.records.proofs.text.Text.same_reals.Goals as goal

pub loop-number-init : goal.loop-number-init
loop-number-init c = (search reach-none, search alike-none)

pub loop-number-preserved : goal.loop-number-preserved
loop-number-preserved c = (search reach-more, search bits-more)

pub returns : goal.returns
returns c = search bits-met
