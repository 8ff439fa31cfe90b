use Rattle.dense.proofs.Steps.{rows-coupled}
use Rattle.dense.proofs.couplings.couple_rows.Goals as goal

pub returns : goal.returns
returns c = let d = rw c.ends.ensures at c.couple_directions.ensures in search rows-coupled
