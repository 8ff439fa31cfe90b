use Rattle.std.proofs.Common.{◌≡◌, ◌+◌, take}
use Rattle.field.specs.Buffer.{write}
use Rattle.layout.specs.Bytes.{total}
use Rattle.layout.specs.Image.{pairs}
use Rattle.layout.proofs.put.put_pairs.Given as goal

abbrev pub invariant-loop-i : goal.invariant-loop-i
invariant-loop-i l =
    (l.offset ≡ l.start + total (take l.i l.sizes)) × (l.out ≡ write l.initial.out l.at (pairs l.start (take l.i l.sizes)))
