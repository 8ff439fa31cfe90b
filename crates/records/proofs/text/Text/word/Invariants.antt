use Rattle.records.proofs.Reading.{Wording}
use Rattle.records.proofs.text.Text.word.Given as goal

abbrev pub invariant-loop-wanted : goal.invariant-loop-wanted
invariant-loop-wanted l = Wording l.fn.self l.self l.word l.wanted-index
