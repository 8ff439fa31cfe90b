use mathlib.Core.Path.{sym}
use Rattle.field.proofs.Buffers.{get-vector}
use Rattle.field.proofs.get3.Goals as goal

pub returns : goal.returns
returns c = sym (get-vector _ _)
