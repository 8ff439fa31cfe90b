use native.Mathlib.Omega.{arith}
use lib.ListN.{length-set}
use Rattle.system.proofs.Sums.{stored_at}
use Rattle.system.proofs.points.put_sums.Goals as goal

pub put3-requires : goal.put3-requires
put3-requires c = simp length-set (omega arith)

pub returns : goal.returns
returns c = search stored_at
