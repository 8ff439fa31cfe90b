use Rattle.std.proofs.Common.{◌≡◌, get_or}
use Rattle.field.specs.Buffer.{vectors_in}
use Rattle.recover.specs.Recover.{new_scale}
use Rattle.recover.specs.inner.Order.{listed_row, stored_at}
use Rattle.recover.proofs.rescale.rescale_bearings.Given as goal

abbrev pub invariant-loop-p : goal.invariant-loop-p
invariant-loop-p l =
    l.out ≡ stored_at (listed_row l.i.net.listed) (new_scale l.i.net (vectors_in l.i.cameras)) 0 (get_or l.i.net.offsets l.p 0) l.initial.out
