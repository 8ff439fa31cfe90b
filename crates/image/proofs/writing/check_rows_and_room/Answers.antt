use Rattle.network.proofs.Verdicts.{halts-in, handed-out, passes-in}
use Rattle.image.proofs.Passing.{room-is}
use Rattle.image.proofs.writing.check_rows_and_room.Goals as goal

pub check_ends-requires : goal.check_ends-requires
check_ends-requires c =
    let l = rw (← c.c.view_is) at c.requires.content_lengths in
    rw (c.shape-s.ensures, ← c.c.view_is) l.ends

pub returns-in_err-check_ends : goal.returns-in_err-check_ends
returns-in_err-check_ends c =
    let e = rw (c.shape-s.ensures, ← c.c.view_is) at c.check_ends.ensures in
    handed-out c.from_residual.ensures.1 (rw (← c.c.view_is) (search (halts-in, c.in_err-check_ends.was)))

pub returns-in_err-check_domain : goal.returns-in_err-check_domain
returns-in_err-check_domain c =
    let e = rw (c.shape-s.ensures, ← c.c.view_is) at c.check_ends.ensures in
    let d = rw (← c.c.view_is) at c.check_domain.ensures in
    handed-out c.from_residual-in_err-check_domain.ensures.1 (rw (← c.c.view_is) (search (passes-in, halts-in, c.in_ok-check_ends.was, c.in_err-check_domain.was)))

pub image_size-requires : goal.image_size-requires
image_size-requires c = rw c.shape-s.ensures c.requires.shape_sound

pub returns : goal.returns
returns c =
    let e = rw (c.shape-s.ensures, ← c.c.view_is) at c.check_ends.ensures in
    let d = rw (← c.c.view_is) at c.check_domain.ensures in
    let k = rw (c.shape-s.ensures, ← c.c.view_is) at c.image_size.ensures in
    rw (← c.c.view_is) (search (passes-in, room-is, c.in_ok-check_ends.was, c.in_ok-check_domain.was))
