use mathlib.Core.Bool.{not}
use mathlib.Core.Path.{◌≡◌, refl, sym, ap}
use native.Mathlib.Omega.{arith}
use Rattle.network.proofs.PointLists.{none_more, none-not, none-zero}
use Rattle.network.proofs.Marking.{marks-at, marks-fail}
use Rattle.network.proofs.lists.mark_list.Goals as goal

pub loop-i-init : goal.loop-i-init
loop-i-init c = (omega arith, none-zero _, marks-at c.requires.marked refl (omega arith))

pub mark_row-requires : goal.mark_row-requires
mark_row-requires c = record { k_bound = omega arith; marked = c.loop-i.invariant.2 }

pub returns-then-not-mark_row : goal.returns-then-not-mark_row
returns-then-not-mark_row c = record { value = none-not _ _ _ c.mark_row.ensures.value (ap not c.if-not-mark_row.true) (omega arith); marked_after = marks-fail _ c.mark_row.ensures.marked_after }

pub loop-i-preserved : goal.loop-i-preserved
loop-i-preserved c = (
  omega arith,
  none_more _ _ c.loop-i.invariant.1 c.mark_row.ensures.value (ap not c.if-not-mark_row.false),
  marks-at c.mark_row.ensures.marked_after c.if-not-mark_row.false (omega arith),
)

pub returns : goal.returns
returns c =
    let e : c.loop-i.i ≡ c.args.k.size = omega arith in
    record { value = sym (rw e at c.loop-i.invariant.1); marked_after = marks-at c.loop-i.invariant.2 refl (omega arith) }
