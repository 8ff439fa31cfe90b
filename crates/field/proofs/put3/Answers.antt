use mathlib.Core.Path.{sym}
use lib.ListN.{length-set}
use Rattle.field.proofs.Buffers.{put_vector}
use native.Mathlib.Omega.{arith}
use Rattle.field.proofs.put3.Goals as goal

pub bounds-s-p-2 : goal.bounds-s-p-2
bounds-s-p-2 c = simp length-set (omega arith)

pub bounds-s-p-3 : goal.bounds-s-p-3
bounds-s-p-3 c = simp length-set (omega arith)

pub returns : goal.returns
returns c = sym (put_vector _ _ _)
