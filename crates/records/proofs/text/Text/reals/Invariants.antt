use mathlib.Core.Path.{◌≡◌}
use mathlib.Core.List.{map}
use lib.Ieee.{binary64, of_bits}
use Rattle.field.specs.Buffer.{write}
use Rattle.records.specs.Records.{moved, hex_at, past, values}
use Rattle.records.proofs.text.Text.reals.Given as goal

abbrev pub invariant-loop-x : goal.invariant-loop-x
invariant-loop-x l =
    (l.self ≡ moved l.initial.self (past (hex_at l.initial.self.input.now) l.initial.self.at l.x-index))
    × (l.into ≡ write l.initial.into 0 (map (of_bits binary64) (values (hex_at l.initial.self.input.now) l.initial.self.at l.x-index)))
