use Rattle.image.proofs.Domain.{vector-is, finite-is}
use Rattle.image.proofs.rows.bad_vector_at.Goals as goal

pub returns : goal.returns
returns c = search (vector-is, finite-is)
