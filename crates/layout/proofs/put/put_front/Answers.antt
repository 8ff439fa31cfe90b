use Rattle.layout.proofs.Stores.{head-room, front-stored}
use Rattle.layout.proofs.put.put_front.Goals as goal

pub put_head-requires : goal.put_head-requires
put_head-requires c = rw c.sizes.ensures (search head-room)

pub returns : goal.returns
returns c = let h = rw c.sizes.ensures at c.put_head.ensures in search front-stored
