use Rattle.std.proofs.Common.{◌≡◌}
use Rattle.field.specs.Count.{field}
use Rattle.field.specs.Buffer.{store, number, vectors_in}
use Rattle.recover.specs.Recover.{dot_in}
use Rattle.recover.proofs.fill_dots.Given as goal

abbrev pub invariant-loop-r : goal.invariant-loop-r
invariant-loop-r l = l.out ≡ store number l.initial.out 0 (field l.r (dot_in l.i.net.shape l.i.net.ends l.i.net.rays l.i.net.positions (vectors_in l.i.cameras)))
