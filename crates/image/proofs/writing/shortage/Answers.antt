use borrow.Author.Tests.{lt-ltb, le-ltb}
use Rattle.image.specs.Tests.{shorter}
use Rattle.image.proofs.writing.shortage.Goals as goal

pub returns-then-room-needed : goal.returns-then-room-needed
unfolding shorter
returns-then-room-needed c = rw (lt-ltb _ _ c.if-room-needed.true)

pub returns-else-room-needed : goal.returns-else-room-needed
unfolding shorter
returns-else-room-needed c = rw (le-ltb _ _ c.if-room-needed.false)
