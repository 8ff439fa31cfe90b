use Rattle.cholesky.proofs.Factored.{given}
use Rattle.cholesky.proofs.Panels.{factored, reached-more, reached-none, reached-stopped}
use mathlib.Core.Path.{refl}
use native.Mathlib.Omega.{arith}
use Rattle.cholesky.proofs.factor_columns.Goals as goal

pub loop-rows-init : goal.loop-rows-init
loop-rows-init c = (omega arith, omega arith, refl, search reached-none)

pub returns-in_err-rows : goal.returns-in_err-rows
returns-in_err-rows c = rw (given c.from_residual.ensures.1) (search (reached-stopped, c.in_err-rows.was))

pub loop-rows-preserved : goal.loop-rows-preserved
loop-rows-preserved c =
    let e = c.four_columns.ensures in
    let was = c.in_ok-rows.was in
    (e.low _ was, omega (arith, e.high _ was), omega arith, search (reached-more, was))

pub returns : goal.returns
returns c = search factored
