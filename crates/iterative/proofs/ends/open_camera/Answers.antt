use Rattle.iterative.proofs.Opening.{turn-anchor, turn-other}
use borrow.Author.Tests.{eq-eqb, ne_eqb}
use Rattle.iterative.proofs.ends.open_camera.Goals as goal

pub returns-then-i-frame : goal.returns-then-i-frame
returns-then-i-frame c = search (turn-anchor, eq-eqb)

pub returns : goal.returns
returns c = search (turn-other, ne_eqb)
