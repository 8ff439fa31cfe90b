use Rattle.std.proofs.Common.{refl, arith}
use Rattle.text.specs.Text.{refused_text, ascii}
use Rattle.text.proofs.Puts.{wrote_three}
use Rattle.text.proofs.Lines.{room-shown, put-room, put-no-room}
use Rattle.text.proofs.put_refused.Goals as goal

pub pair-requires : goal.pair-requires
pair-requires c = omega (arith, room-shown 0 _ _ c.has_room.ensures c.if-has_room.true)

pub byte-requires : goal.byte-requires
byte-requires c = omega (arith, room-shown 0 _ _ c.has_room.ensures c.if-has_room.true)

pub returns-then-has_room : goal.returns-then-has_room
unfolding refused_text ascii
returns-then-has_room c = search (put-room, wrote_three c.pair.ensures c.camera-then-has_room.ensures c.byte.ensures refl, arith)

pub returns : goal.returns
returns c = search put-no-room
