use Rattle.network.proofs.Verdicts.{given}
use Rattle.image.proofs.Passing.{write-refused, write_shape, write-lengths, write-room, write-passed, holds-doubles}
use Rattle.image.proofs.write.Goals as goal

pub returns-in_err-check_write : goal.returns-in_err-check_write
returns-in_err-check_write c =
    let e = rw (← c.c.view_is) at c.check_write.ensures in
    rw (given c.from_residual.ensures.1, ← c.c.view_is) (search (write-refused, holds-doubles, c.in_err-check_write.was))

pub put_image-requires : goal.put_image-requires
put_image-requires c = record { content_lengths = search (write-lengths, c.in_ok-check_write.was); points_in_bounds = search (write-room, c.in_ok-check_write.was) }

pub image_size-requires : goal.image_size-requires
image_size-requires c = rw c.shape.ensures (search (write_shape, c.in_ok-check_write.was))

pub returns : goal.returns
returns c =
    let e = rw (← c.c.view_is) at c.check_write.ensures in
    let p = rw (← c.c.view_is) at c.put_image.ensures in
    let k = rw (c.shape.ensures, ← c.c.view_is) at c.image_size.ensures in
    rw (← c.c.view_is) (search (write-passed, holds-doubles, c.in_ok-check_write.was))
