use Rattle.std.proofs.Common.{arith}
use Rattle.text.proofs.Puts.{copied}
use Rattle.text.proofs.Writer.bytes.Goals as goal

pub returns : goal.returns
returns c = search (copied, arith)
