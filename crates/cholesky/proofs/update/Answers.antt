use Prim.Native.Nat.{◌+◌}
use mathlib.Core.Path.{◌≡◌}
use native.Mathlib.Omega.{arith}
use Rattle.cholesky.proofs.Updates.{updated-ended, updated-more, updated_none}
use Rattle.cholesky.proofs.update.Goals as goal

pub loop-from-init : goal.loop-from-init
loop-from-init c = (omega arith, search updated_none)

pub loop-from-preserved : goal.loop-from-preserved
loop-from-preserved c =
    let e : c.loop-from.from + c.min-n.result ≡ c.loop-from.from + 256 = omega arith in
    (omega arith, search updated-more)

pub returns : goal.returns
returns c = search updated-ended

pub returns-2 : goal.returns-2
returns-2 c = let e : c.loop-from.from + c.min-n.result ≡ c.args.rows = omega arith in search updated-more
