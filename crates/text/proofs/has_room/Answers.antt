use Rattle.text.proofs.Puts.{room_for, no_room}
use Rattle.text.proofs.has_room.Goals as goal

pub returns-then-out-ge256 : goal.returns-then-out-ge256
returns-then-out-ge256 c = search room_for

pub returns-else-out-ge256 : goal.returns-else-out-ge256
returns-else-out-ge256 c = search no_room
