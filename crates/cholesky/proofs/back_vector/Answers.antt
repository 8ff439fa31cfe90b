use Prim.Native.Nat.{◌≤◌}
use native.Mathlib.Omega.{arith}
use Rattle.cholesky.proofs.Substitution.{back-vector-ended, back-vector-more, back-vector-none}
use Rattle.cholesky.proofs.back_vector.Goals as goal

pub loop-k-init : goal.loop-k-init
loop-k-init c = search back-vector-none

pub loop-k-preserved : goal.loop-k-preserved
loop-k-preserved c = search back-vector-more

pub returns : goal.returns
returns c = let h : c.loop-k.k ≤ c.args.d = omega arith in search back-vector-ended
