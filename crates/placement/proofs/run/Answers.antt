use Rattle.system.proofs.Forming.{rows-sound}
use Rattle.placement.proofs.Placing.{checked-room, formed-ready, formed-room, run-done}
use Rattle.placement.proofs.run.Goals as goal

pub new-rows-requires : goal.new-rows-requires
new-rows-requires c = rows-sound _ c.requires.sound

pub form-anchor-requires : goal.form-anchor-requires
form-anchor-requires c = rw c.new-rows.ensures (search checked-room)

pub go-ended-requires : goal.go-ended-requires
go-ended-requires c =
    let formed = rw c.new-rows.ensures at c.form-anchor.ensures in
    rw (c.links.ensures.value, c.new-rows.ensures) (search formed-ready)

pub answered-requires : goal.answered-requires
answered-requires c =
    let formed = rw c.new-rows.ensures at c.form-anchor.ensures in
    let gone = rw (c.links.ensures.value, c.new-rows.ensures) at c.go-ended.ensures in
    record { shape_sound = rw c.shape.ensures c.requires.sound.links.ends.shape; s_in_bounds = rw c.shape.ensures (formed-room _ _ _ _ _ _ formed c.requires _ _ _ gone) }

pub returns : goal.returns
returns c =
    let formed = rw c.new-rows.ensures at c.form-anchor.ensures in
    let gone = rw (c.links.ensures.value, c.new-rows.ensures) at c.go-ended.ensures in
    let answered = rw c.shape.ensures at c.answered.ensures in
    run-done _ _ _ _ _ _ formed _ _ _ c.requires gone answered
