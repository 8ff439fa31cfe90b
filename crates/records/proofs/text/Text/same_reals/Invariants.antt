use mathlib.Core.Path.{◌≡◌}
use lib.ListN.{take}
use mathlib.Core.List.{map}
use lib.Ieee.{binary64, to_bits}
use Rattle.records.specs.Records.{moved, hex_at, past, values, alike}
use Rattle.records.proofs.text.Text.same_reals.Given as goal

abbrev pub invariant-loop-number : goal.invariant-loop-number
invariant-loop-number l =
    (l.self ≡ moved l.initial.self (past (hex_at l.initial.self.input.now) l.initial.self.at l.number-index))
    × (l.same ≡ alike (values (hex_at l.initial.self.input.now) l.initial.self.at l.number-index) (take l.number-index (map (to_bits binary64) l.numbers)))
