use Rattle.iterative.proofs.Entries.{summed-none, summed-more}
use Rattle.iterative.proofs.fields.fill_summed.Goals as goal

pub loop-i-init : goal.loop-i-init
loop-i-init g c y h = search summed-none

pub loop-i-preserved : goal.loop-i-preserved
loop-i-preserved g c y h =
    let S = c.loop-i.invariant y h in
    summed-more y _ _ _ _ _ _ _ _ _ _ _ c.loop-i-test.true c.requires.room.1 S (h _ _ _ c.loop-i-test.true S.filled c.f-v.ensures) c.put_vector.ensures c.step-sum.ensures
