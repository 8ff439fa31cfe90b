use native.Mathlib.Nat.{mul-le-mul}
use native.Mathlib.Omega.{arith}
use Rattle.system.proofs.work.dense_right_at.Goals as goal

pub overflow_mul-result : goal.overflow_mul-result
overflow_mul-result c = let h = mul-le-mul c.requires.d_bound c.requires.d_bound in omega arith

pub overflow_add-result : goal.overflow_add-result
overflow_add-result c = let h = mul-le-mul c.requires.d_bound c.requires.d_bound in omega arith
