use Rattle.std.proofs.Common.{refl, arith}
use Rattle.text.specs.Text.{placed_text}
use Rattle.text.proofs.Puts.{wrote_three}
use Rattle.text.proofs.Lines.{room-shown, put-room, put-no-room}
use Rattle.text.proofs.put_placed.Goals as goal

pub put_head-requires : goal.put_head-requires
put_head-requires c = omega (arith, room-shown _ _ _ c.has_room.ensures c.if-has_room.true)

pub put_vectors-requires : goal.put_vectors-requires
put_vectors-requires c = omega (arith, room-shown _ _ _ c.has_room.ensures c.if-has_room.true)

pub put_vectors-requires-then-has_room : goal.put_vectors-requires-then-has_room
put_vectors-requires-then-has_room c = omega (arith, room-shown _ _ _ c.has_room.ensures c.if-has_room.true)

pub returns-then-has_room : goal.returns-then-has_room
unfolding placed_text
returns-then-has_room c = search (put-room, wrote_three c.put_head.ensures c.put_vectors.ensures c.put_vectors-then-has_room.ensures refl, arith)

pub returns : goal.returns
returns c = search put-no-room
