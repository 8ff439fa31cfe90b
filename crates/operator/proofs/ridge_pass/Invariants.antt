use Rattle.std.proofs.Common.{◌≡◌}
use Rattle.field.specs.Buffer.{load, store, vector}
use Rattle.operator.specs.Operator.{ridged}
use Rattle.operator.proofs.ridge_pass.Given as goal

abbrev pub invariant-loop-i : goal.invariant-loop-i
invariant-loop-i l =
    l.work ≡ store vector l.initial.work l.f.into (ridged l.i l.f.anchor (load vector l.initial.work l.f.from l.fn.s.cameras))
