use Rattle.std.proofs.Common.{◌≡◌}
use Rattle.field.specs.Buffer.{vectors_in}
use Rattle.recover.specs.Recover.{new_scale_in}
use Rattle.recover.specs.inner.Order.{listed_row, stored_at}
use Rattle.recover.proofs.rescale.rescale_list.Given as goal

abbrev pub invariant-loop-j : goal.invariant-loop-j
invariant-loop-j l = l.out ≡ stored_at (listed_row l.i.net.listed) (new_scale_in l.keeps l.i.net.shape l.i.net.ends l.i.net.rays l.i.net.scales l.i.net.positions (vectors_in l.i.cameras)) l.k.first l.j l.initial.out
