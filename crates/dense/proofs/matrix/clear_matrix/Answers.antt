use Rattle.dense.proofs.Changes.{cleared}
use Rattle.dense.proofs.matrix.clear_matrix.Goals as goal

pub returns : goal.returns
returns c = let zeros = c.fill.ensures.after (λ y h. h) in search cleared
