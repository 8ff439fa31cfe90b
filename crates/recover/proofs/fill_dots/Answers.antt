use native.Mathlib.Omega.{arith}
use Rattle.recover.proofs.Rows.{dots-more, dots-ended}
use Rattle.field.proofs.Buffers.{store-none}
use Rattle.recover.proofs.fill_dots.Goals as goal

pub loop-r-init : goal.loop-r-init
loop-r-init c = search store-none

pub loop-r-preserved : goal.loop-r-preserved
loop-r-preserved c = search dots-more

pub returns : goal.returns
returns c = dots-ended _ _ _ _ _ _ _ _ _ c.loop-r.invariant (omega arith) (omega arith) c.requires
