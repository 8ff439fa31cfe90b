use Rattle.field.proofs.Fills.{fill_none, fill_more}
use Rattle.iterative.proofs.fields.fill.Goals as goal

pub loop-i-init : goal.loop-i-init
loop-i-init g c y h = search fill_none

pub loop-i-preserved : goal.loop-i-preserved
loop-i-preserved g c y h =
    let e = c.loop-i.invariant y h in
    fill_more y _ _ _ _ _ _ e (h _ _ _ c.loop-i-test.true e c.f-v.ensures) c.put_vector.ensures
