use Prim.Native.Nat.{◌%◌, ◌^◌}
use native.Mathlib.Omega.{arith}
use Rattle.sqrt.proofs.Parted.{Lead, lead, normal-split, subnormal-split}
use Rattle.sqrt.proofs.split.Goals as goal

pub overflow_sub-j : goal.overflow_sub-j
overflow_sub-j c =
    let digits : Lead (c.args.b % 2 ^ 52) = lead _ (omega arith) (omega arith) in
    omega (arith, digits)

pub overflow_cast-j : goal.overflow_cast-j
overflow_cast-j c =
    let digits : Lead (c.args.b % 2 ^ 52) = lead _ (omega arith) (omega arith) in
    omega (arith, digits)

pub overflow_shl-result : goal.overflow_shl-result
overflow_shl-result c =
    let digits : Lead (c.args.b % 2 ^ 52) = lead _ (omega arith) (omega arith) in
    omega (arith, digits)

pub overflow_sub-result : goal.overflow_sub-result
overflow_sub-result c =
    let digits : Lead (c.args.b % 2 ^ 52) = lead _ (omega arith) (omega arith) in
    omega (arith, digits)

pub returns-then-e-eq0 : goal.returns-then-e-eq0
returns-then-e-eq0 c = subnormal-split _ (omega arith) (omega arith)

pub returns-else-e-eq0 : goal.returns-else-e-eq0
returns-else-e-eq0 c = normal-split _ (omega arith) (omega arith)
