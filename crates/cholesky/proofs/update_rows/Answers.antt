use Prim.Native.Nat.{◌+◌}
use mathlib.Core.Path.{◌≡◌}
use native.Mathlib.Omega.{arith}
use Rattle.cholesky.proofs.Updates.{rows_append, rows_empty, rows-ended, rows_last, rows_none}
use Rattle.cholesky.proofs.update_rows.Goals as goal
use Rattle.cholesky.proofs.update_rows.Goals.{else-loop-i-test, then-loop-i-test+else-i-end-i-gt2}

pub returns-then-rows-from : goal.returns-then-rows-from
returns-then-rows-from c = search rows_empty

pub loop-i-init : goal.loop-i-init
loop-i-init c = (omega arith, omega arith, search rows_none)

pub loop-i-preserved : goal.loop-i-preserved
loop-i-preserved c = (omega arith, omega arith, search rows_append)

pub returns-then-rows-from-eq0 : goal.returns-then-rows-from-eq0
returns-then-rows-from-eq0 c =
    elim c.loop-i-test.branch [
      | else-loop-i-test w ↦
          let e : c.loop-i.i + 1 ≡ c.args.rows = omega arith in
          let u = rw w.a-is at c.update_one-then-rows-from-eq0.ensures in
          search rows_last
      | then-loop-i-test+else-i-end-i-gt2 w ↦
          let e : c.loop-i.i + 2 + 1 ≡ c.args.rows = omega arith in
          let u = rw w.a-is at c.update_one-then-rows-from-eq0.ensures in
          let v = rows_append _ _ _ _ _ _ _ _ _ _ _ c.loop-i.invariant.2 w.update_two.ensures in
          search rows_last
    ]

pub returns-else-rows-from-eq0 : goal.returns-else-rows-from-eq0
returns-else-rows-from-eq0 c =
    elim c.loop-i-test.branch [
      | else-loop-i-test w ↦
          let e : c.loop-i.i ≡ c.args.rows = omega arith in
          rw w.a-is (search rows-ended)
      | then-loop-i-test+else-i-end-i-gt2 w ↦
          let e : c.loop-i.i + 2 ≡ c.args.rows = omega arith in
          let v = rows_append _ _ _ _ _ _ _ _ _ _ _ c.loop-i.invariant.2 w.update_two.ensures in
          rw w.a-is (search rows-ended)
    ]
