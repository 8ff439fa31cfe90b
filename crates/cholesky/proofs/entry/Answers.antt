use Rattle.cholesky.proofs.Places.{place-below}
use native.Mathlib.Omega.{arith}
use Rattle.cholesky.proofs.entry.Goals as goal

pub overflow_mul-result : goal.overflow_mul-result
overflow_mul-result c = let a = c.args in omega (arith, place-below a.d a.i a.j (omega arith) (omega arith))

pub overflow_add-result : goal.overflow_add-result
overflow_add-result c = let a = c.args in omega (arith, place-below a.d a.i a.j (omega arith) (omega arith))

pub offset_bounds-a-i : goal.offset_bounds-a-i
offset_bounds-a-i c = let a = c.args in omega (arith, place-below a.d a.i a.j (omega arith) (omega arith))

pub bounds-a-i : goal.bounds-a-i
bounds-a-i c = let a = c.args in omega (arith, place-below a.d a.i a.j (omega arith) (omega arith))
