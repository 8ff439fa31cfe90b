use Rattle.command.proofs.Passing.{ends-passed, lists-built}
use Rattle.command.proofs.listing.list.Goals as goal

pub place_listed-requires : goal.place_listed-requires
place_listed-requires c =
    let C = rw (← c.c.view_is) at c.requires.content_sound in
    let n = rw (← c.c.view_is) at c.requires.offsets_len in
    record { content_sound = C; listed = search (lists-built, ends-passed) }
