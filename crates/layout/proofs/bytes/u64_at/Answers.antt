use native.Mathlib.Omega.{arith}
use Rattle.layout.proofs.Numbers.{eight-bytes}
use Rattle.layout.proofs.bytes.u64_at.Goals as goal

pub returns : goal.returns
returns c = omega (arith, eight-bytes c.args.bytes.now c.args.p)
