use mathlib.Core.Path.{sym}
use native.Mathlib.Omega.{arith}
use lib.Seq.{length-take-le}
use Rattle.command.proofs.Counting.{parts-counted}
use Rattle.command.proofs.parts.count_parts.Goals as goal

pub slice_bounds-parts-end-2 : goal.slice_bounds-parts-end-2
slice_bounds-parts-end-2 c = let h = rw (← c.net.view_is) at c.requires in sym (length-take-le _ _ (omega (arith, h.small)))

pub returns : goal.returns
returns c =
    let P = rw (← c.net.view_is) at c.requires in
    rw (← c.net.view_is) (search (parts-counted, length-take-le, arith))
