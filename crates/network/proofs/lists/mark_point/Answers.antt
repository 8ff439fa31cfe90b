use mathlib.Core.Path.{refl}
use native.Mathlib.Omega.{arith}
use Rattle.network.proofs.PointLists.{list-fit}
use Rattle.network.proofs.Marking.{marks-at}
use Rattle.network.proofs.lists.mark_point.Goals as goal

pub returns : goal.returns
returns c =
    let fit = rw (c.offset.ensures, c.offset-first.ensures) at c.mark_list.ensures.value in
    let marked = rw (c.offset.ensures, c.offset-first.ensures) at c.mark_list.ensures.marked_after in
    record { value = list-fit _ _ _ _ _ fit; marked_after = marks-at marked refl (omega arith) }
