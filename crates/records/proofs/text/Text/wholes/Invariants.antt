use mathlib.Core.Path.{◌≡◌}
use Rattle.field.specs.Buffer.{write}
use Rattle.records.specs.Records.{moved, decimal_at, past, values}
use Rattle.records.proofs.text.Text.wholes.Given as goal

abbrev pub invariant-loop-x : goal.invariant-loop-x
invariant-loop-x l =
    (l.self ≡ moved l.initial.self (past (decimal_at l.initial.self.input.now) l.initial.self.at l.x-index))
    × (l.into ≡ write l.initial.into 0 (values (decimal_at l.initial.self.input.now) l.initial.self.at l.x-index))
