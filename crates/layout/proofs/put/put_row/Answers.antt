use Prim.Native.Nat.{◌+◌, ◌*◌, ◌≤◌}
use native.Mathlib.Omega.{arith}
use lib.ListN.{length}
use Rattle.layout.proofs.Stores.{row-stored}
use Rattle.layout.proofs.put.put_row.Goals as goal

pub returns : goal.returns
returns c =
    let n = rw (← c.c.view_is) at c.requires.content_lengths in
    let q = rw (← c.c.view_is) at c.requires.r_lt_rows in
    let x : 2 * c.args.r + 2 ≤ length c.c.inside.ends.now = omega (arith, n.ends) in
    let y : 3 * c.args.r + 3 ≤ length c.c.inside.rays.now = omega (arith, n.domain.rays) in
    rw (← c.c.view_is) (search row-stored)
