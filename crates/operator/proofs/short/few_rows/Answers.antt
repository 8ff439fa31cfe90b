use Rattle.operator.proofs.Sights.{few-done}
use Rattle.operator.proofs.short.few_rows.Goals as goal

pub returns : goal.returns
returns g c = let e = rw c.shape.ensures.value at c.push_all.ensures in search few-done
