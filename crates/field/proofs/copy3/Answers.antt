use mathlib.Core.Path.{◌≡◌, refl, ◌∙◌}
use native.Mathlib.Numerals.{add-one}
use Rattle.field.specs.Buffer.{vector}
use Rattle.field.proofs.Buffers.{load-none, load-more, vector-lawful}
use native.Mathlib.Omega.{arith}
use Rattle.field.proofs.copy3.Goals as goal

pub loop-i-init : goal.loop-i-init
loop-i-init c = (load-none vector _ _ _ _, refl)

pub loop-i-preserved : goal.loop-i-preserved
loop-i-preserved c =
    let l = c.loop-i in
    (rw add-one (c.put3.ensures ∙ load-more vector vector-lawful _ _ _ _ _ _ _ l.invariant.0 c.get3-v.ensures), omega arith)

pub returns : goal.returns
returns c =
    let e : c.loop-i.i ≡ c.args.n = omega arith in
    rw e at c.loop-i.invariant.0
