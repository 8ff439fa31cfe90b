use Rattle.recover.proofs.Rows.{answer-kept, answer-new}
use Rattle.recover.proofs.row.Sites.answer.Goals as goal

pub returns-then-keeps : goal.returns-then-keeps
returns-then-keeps c = search answer-kept

pub returns : goal.returns
returns c = let v = rw c.rows.ensures at c.ray.ensures in search answer-new
