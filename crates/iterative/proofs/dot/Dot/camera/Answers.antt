use native.Mathlib.Nat.{le_antisymm}
use Rattle.iterative.proofs.CameraSums.{camera-found, camera-more, camera-stayed}
use Rattle.iterative.proofs.Entries.{dot-none, dot-more}
use Rattle.field.proofs.Counting.{lowest-zero}
use Rattle.iterative.proofs.dot.Dot.camera.Goals as goal

pub loop-i-init : goal.loop-i-init
loop-i-init c = (search dot-none, lowest-zero _)

pub loop-i-preserved : goal.loop-i-preserved
loop-i-preserved c =
    let e = dot-more _ _ _ _ _ _ c.loop-i.invariant.0 c.step-sum.ensures in
    (e, camera-more _ _ _ _ _ _ _ e (rw c.component.ensures at c.is_finite.ensures) c.loop-i.invariant.1 c.if-not-is_finite.false)

pub returns-then-not-is_finite : goal.returns-then-not-is_finite
returns-then-not-is_finite c =
    let e = dot-more _ _ _ _ _ _ c.loop-i.invariant.0 c.step-sum.ensures in
    camera-found _ _ _ _ _ _ _ e (rw c.component.ensures at c.is_finite.ensures) c.loop-i.invariant.1 _ c.loop-i-test.true c.if-not-is_finite.true

pub returns : goal.returns
returns c = camera-stayed _ _ _ _ _ (rw (le_antisymm c.loop-i.auto.i-end c.loop-i-test.false) at c.loop-i.invariant.1)
