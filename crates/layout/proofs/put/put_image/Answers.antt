use Rattle.layout.proofs.Stores.{image-stored}
use Rattle.layout.proofs.put.put_image.Goals as goal

pub returns : goal.returns
returns c =
    let n = rw (← c.c.view_is) at c.requires.content_lengths in
    let f = rw (c.shape-s.ensures, ← c.c.view_is) at c.put_front.ensures in
    let r = rw (← c.c.view_is) at c.put_rows.ensures in
    let p = rw (c.shape-s.ensures, ← c.c.view_is, n.domain.positions) at c.put_doubles.ensures in
    rw (← c.c.view_is) (search image-stored)
