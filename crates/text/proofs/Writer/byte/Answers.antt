use Rattle.std.proofs.Common.{arith, length-set}
use Rattle.field.proofs.Buffers.{set-write}
use Rattle.text.proofs.Writer.byte.Goals as goal

pub returns : goal.returns
returns c = search (set-write, length-set, arith)
