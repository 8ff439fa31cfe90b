use Rattle.records.proofs.Reading.{wording-none, wording-more, wording-done}
use Rattle.records.proofs.text.Text.word.Goals as goal

pub loop-wanted-init : goal.loop-wanted-init
loop-wanted-init c = search wording-none

pub loop-wanted-preserved : goal.loop-wanted-preserved
loop-wanted-preserved c = search wording-more

pub returns : goal.returns
returns c = search wording-done
