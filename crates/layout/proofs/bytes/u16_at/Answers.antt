use native.Mathlib.Omega.{arith}
use Rattle.layout.proofs.Numbers.{two-bytes}
use Rattle.layout.proofs.bytes.u16_at.Goals as goal

pub returns : goal.returns
returns c = (omega (arith, two-bytes c.args.bytes.now c.args.p), omega arith)
