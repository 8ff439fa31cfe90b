use mathlib.Core.Bool.{not}
use mathlib.Core.Path.{◌≡◌, refl, sym, ap}
use Prim.Native.Nat.{◌+◌}
use native.Mathlib.Omega.{arith}
use Rattle.network.proofs.PointLists.{none_more, none-not, none-zero}
use Rattle.network.proofs.Marking.{marks-at}
use Rattle.network.proofs.lists.mark_points.Goals as goal

pub loop-p-init : goal.loop-p-init
loop-p-init c = (omega arith, none-zero _, marks-at c.requires.marked refl (sym c.requires.offsets_sound.start))

pub mark_point-requires : goal.mark_point-requires
mark_point-requires c =
    let m : c.shape-p-end.result.points ≡ c.args.lists.now.shape.points = ap (λ s. s.points) c.shape-p-end.ensures.value in
    let o = c.requires.offsets_sound in
    record {
      p_bound = (omega arith, omega arith);
      rises = (o.rises c.loop-p.p (omega arith), o.within (c.loop-p.p + 1) (omega arith));
      marked = c.loop-p.invariant.2;
    }

pub returns-then-not-mark_point : goal.returns-then-not-mark_point
returns-then-not-mark_point c =
    let m : c.shape-p-end.result.points ≡ c.args.lists.now.shape.points = ap (λ s. s.points) c.shape-p-end.ensures.value in
    record { value = none-not _ _ _ c.mark_point.ensures.value (ap not c.if-not-mark_point.true) (omega arith); marks_len = c.mark_point.ensures.marked_after.size }

pub loop-p-preserved : goal.loop-p-preserved
loop-p-preserved c =
    let m : c.shape-p-end.result.points ≡ c.args.lists.now.shape.points = ap (λ s. s.points) c.shape-p-end.ensures.value in (
      omega arith,
      none_more _ _ c.loop-p.invariant.1 c.mark_point.ensures.value (ap not c.if-not-mark_point.false),
      marks-at c.mark_point.ensures.marked_after c.if-not-mark_point.false refl,
    )

pub returns : goal.returns
returns c =
    let m : c.shape-p-end.result.points ≡ c.args.lists.now.shape.points = ap (λ s. s.points) c.shape-p-end.ensures.value in
    let e : c.loop-p.p ≡ c.args.lists.now.shape.points = omega arith in
    record { value = sym (rw e at c.loop-p.invariant.1); marks_len = c.loop-p.invariant.2.size }
