use Rattle.cholesky.proofs.Finished.{entry_done, entry-stopped}
use Rattle.cholesky.proofs.factor_entry.Goals as goal

pub returns-then-is_finite : goal.returns-then-is_finite
returns-then-is_finite c = search entry_done

pub returns : goal.returns
returns c = search entry-stopped
