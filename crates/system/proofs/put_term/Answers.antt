use native.Mathlib.Omega.{arith}
use lib.ListN.{length-set}
use Rattle.system.proofs.Terms.{put-term-by}
use Rattle.system.proofs.put_term.Goals as goal

pub put3-requires : goal.put3-requires
put3-requires c = simp length-set (omega arith)

pub returns : goal.returns
returns c = search put-term-by
