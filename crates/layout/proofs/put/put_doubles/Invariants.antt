use Rattle.std.proofs.Common.{◌≡◌}
use Rattle.field.specs.Buffer.{write}
use Rattle.layout.specs.Bytes.{doubles}
use Rattle.layout.proofs.put.put_doubles.Given as goal

abbrev pub invariant-loop-i : goal.invariant-loop-i
invariant-loop-i l = l.out ≡ write l.initial.out l.at (doubles l.list 0 l.i)
