use Rattle.std.proofs.Common.{◌≡◌}
use Rattle.field.specs.Buffer.{write}
use Rattle.layout.specs.Bytes.{run}
use Rattle.layout.specs.Image.{row_of}
use Rattle.layout.proofs.put.put_rows.Given as goal

abbrev pub invariant-loop-r : goal.invariant-loop-r
invariant-loop-r l = l.out ≡ write l.initial.out l.at (run l.r (row_of l.c))
