use mathlib.Core.Path.{◌≡◌}
use lib.ListN.{take}
use Rattle.records.specs.Records.{moved, decimal_at, past, values, alike}
use Rattle.records.proofs.text.Text.same_wholes.Given as goal

abbrev pub invariant-loop-number : goal.invariant-loop-number
invariant-loop-number l =
    (l.self ≡ moved l.initial.self (past (decimal_at l.initial.self.input.now) l.initial.self.at l.number-index))
    × (l.same ≡ alike (values (decimal_at l.initial.self.input.now) l.initial.self.at l.number-index) (take l.number-index l.numbers))
