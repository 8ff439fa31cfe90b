use Rattle.records.proofs.Reading.{Reading}
use Rattle.records.proofs.text.read_digits.Given as goal

abbrev pub invariant-loop-count : goal.invariant-loop-count
invariant-loop-count l = Reading l.base l.most l.text l.value l.count
