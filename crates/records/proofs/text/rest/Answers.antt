use Rattle.records.proofs.Reading.{rest-is, rest-none}
use Rattle.records.proofs.text.rest.Goals as goal

pub returns-then-at-input : goal.returns-then-at-input
returns-then-at-input c = search rest-is

pub returns : goal.returns
returns c = search rest-none
