use Rattle.text.specs.Text.{ascii, camera_text}
use Rattle.text.proofs.Puts.{wrote-none}
use Rattle.text.proofs.Writer.camera.Goals as goal

pub returns-in-Some : goal.returns-in-Some
unfolding camera_text ascii
returns-in-Some c = rw c.in-Some.is c.named.ensures

pub returns-in_default : goal.returns-in_default
unfolding camera_text
returns-in_default c = rw c.in_default.is (wrote-none _ _)
