use Rattle.text.proofs.Lines.{hex-none, hex-last}
use Rattle.text.proofs.Writer.+hex.Goals as goal

pub returns-else-k-gt0 : goal.returns-else-k-gt0
returns-else-k-gt0 t c = search hex-none

pub returns-then-k-gt0 : goal.returns-then-k-gt0
returns-then-k-gt0 t c = search hex-last
