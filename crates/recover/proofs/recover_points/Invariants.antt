use Rattle.std.proofs.Common.{◌≡◌}
use Rattle.field.specs.Count.{field}
use Rattle.field.specs.Buffer.{store, vector}
use Rattle.system.specs.System.{network_of}
use Rattle.system.specs.inner.Formed.{positions_in, weights_in}
use Rattle.recover.specs.Recover.{point_by}
use Rattle.recover.proofs.recover_points.Given as goal

abbrev pub invariant-loop-p : goal.invariant-loop-p
invariant-loop-p l =
    let s = l.rows.links.shape in
    l.out ≡ store vector l.initial.out 0 (field l.p (point_by (network_of l.rows l.points) (weights_in s l.work) (positions_in s l.work)))
