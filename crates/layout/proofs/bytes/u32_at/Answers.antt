use native.Mathlib.Omega.{arith}
use Rattle.layout.proofs.Numbers.{four-bytes}
use Rattle.layout.proofs.bytes.u32_at.Goals as goal

pub returns : goal.returns
returns c = (omega (arith, four-bytes c.args.bytes.now c.args.p), omega arith)
