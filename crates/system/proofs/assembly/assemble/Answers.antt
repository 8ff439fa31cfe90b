use Rattle.system.proofs.Rows.{assembled}
use Rattle.system.proofs.assembly.assemble.Goals as goal

pub returns : goal.returns
returns c = let k = rw c.shape.ensures.value at c.term_at.ensures in search assembled
